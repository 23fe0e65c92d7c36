use Rattle.std.proofs.Common.{◌+◌, ◌-◌, ◌≤◌, ◌<◌, ◌≡◌, ◌∙◌, ℕ, leb, true, false, sym, arith, le-leb, leb-true}
use Rattle.std.proofs.lemmas.Bool.{lt-leb, leb-false}
use Rattle.std.proofs.Common.{rules}
use Rattle.report_text.specs.Texts.{report_room}
use Rattle.hep_c.specs.Answers.{growth, count_numbers, results_fit}
use Rattle.hep_c.proofs.results_fit.Goals as goal
use Rattle.hep_c.proofs.results_fit.Goals.{then-output-ge-GROWTH, else-output-ge-GROWTH, then-image-output, else-image-output}

module _ (image output counts report : ℕ) where
  roomy : image + growth ≤ output → count_numbers ≤ counts → leb report_room report ≡ results_fit image output counts report
  unfolding results_fit
  roomy h k = rw (le-leb (image + growth) output h, le-leb count_numbers counts k)

  few_counts : image + growth ≤ output → counts < count_numbers → false ≡ results_fit image output counts report
  unfolding results_fit
  few_counts h k = rw (le-leb (image + growth) output h, lt-leb count_numbers counts k)

  short_output : output < image + growth → false ≡ results_fit image output counts report
  unfolding results_fit
  short_output h = rw (lt-leb (image + growth) output h)

pub returns-then-counts-ge-COUNTS : goal.returns-then-counts-ge-COUNTS
returns-then-counts-ge-COUNTS c = elim c.if-image-output.branch [
  | then-image-output w ↦ elim c.if-output-ge-GROWTH.branch [
    | then-output-ge-GROWTH v ↦
        let grown = leb-true c.args.image (c.args.output - growth) (sym v.value-is ∙ w.if-image-output.true) in
        let counted = leb-true count_numbers c.args.counts (sym w.value-is ∙ c.if-counts-ge-COUNTS.true) in
        roomy c.args.image c.args.output c.args.counts c.args.report (omega (arith, grown, v.if-output-ge-GROWTH.true)) counted
    | else-output-ge-GROWTH v ↦ let enough = leb-true growth c.args.output (sym v.value-is ∙ w.if-image-output.true) in absurd (omega (arith, enough, v.if-output-ge-GROWTH.false))
  ]
  | else-image-output w ↦ let no : true ≡ false = sym c.if-counts-ge-COUNTS.true ∙ w.value-is ∙ w.if-image-output.false in absurd (search rules)
]

pub returns-else-counts-ge-COUNTS : goal.returns-else-counts-ge-COUNTS
returns-else-counts-ge-COUNTS c = c.if-counts-ge-COUNTS.false ∙ elim c.if-output-ge-GROWTH.branch [
  | then-output-ge-GROWTH v ↦ elim c.if-image-output.branch [
    | then-image-output w ↦
        let grown = leb-true c.args.image (c.args.output - growth) (sym v.value-is ∙ w.if-image-output.true) in
        let few = leb-false count_numbers c.args.counts (sym w.value-is ∙ c.if-counts-ge-COUNTS.false) in
        few_counts c.args.image c.args.output c.args.counts c.args.report (omega (arith, grown, v.if-output-ge-GROWTH.true)) few
    | else-image-output w ↦
        let short = leb-false c.args.image (c.args.output - growth) (sym v.value-is ∙ w.if-image-output.false) in
        short_output c.args.image c.args.output c.args.counts c.args.report (omega (arith, short, v.if-output-ge-GROWTH.true))
  ]
  | else-output-ge-GROWTH v ↦ short_output c.args.image c.args.output c.args.counts c.args.report (omega (arith, v.if-output-ge-GROWTH.false))
]
