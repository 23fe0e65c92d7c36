use mathlib.Core.Path.{refl, sym, ◌∙◌}
use Rattle.std.specs.Prelude.{Ok}
use Rattle.std.proofs.lemmas.Result.{err_from_is_err_and}
use Rattle.image.specs.Codec.{no_state, uniform_section}
use Rattle.image.specs.Image.{word_codec, words_codec}
use Rattle.image_bytes.specs.Code.Scanning.{scan}
use Rattle.image_bytes.specs.Laws.Scans.{value_here, list_section_scan}
use Rattle.image_check.proofs.check_words.Goals as goal

pub returns-in_err-at : goal.returns-in_err-at
unfolding words_codec uniform_section scan
returns-in_err-at c =
    let a = c.args in
    let p = err_from_is_err_and c.from_residual.result c.from_residual.ensures.1 in
    rw (p.1, p.2) (sym (list_section_scan (λ _. word_codec) no_state a.s.now a.w a.most c.requires (Ok a.at) (value_here _ _ _ c.number_at-n.ensures.value) refl c.in_err-at.ensures tt))

pub returns : goal.returns
unfolding words_codec uniform_section
returns c =
    let a = c.args in
    c.check_words.ensures ∙ sym (list_section_scan (λ _. word_codec) no_state a.s.now a.w a.most c.requires (Ok a.at) (value_here _ _ _ c.number_at-n.ensures.value) refl c.in_ok-at.ensures tt)
