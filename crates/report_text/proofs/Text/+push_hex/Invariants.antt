use Rattle.report_text.proofs.Text.+push_hex.Given as goal

-- how many digits are left
abbrev pub decreases-push_hex : goal.decreases-push_hex
decreases-push_hex l = l.k
