use Rattle.std.proofs.Common.{rules, ◌≡◌, ◌<◌, ◌∙◌, sym, length, arith, length-take}
use Rattle.std.proofs.lemmas.List.{get_or-take}
use Rattle.window.specs.declared.Row.{Row}
use Rattle.report_text.specs.Laws.Rows.{goes, ends}
use Rattle.report_text.proofs.Text.push_rows.Goals as goal

abbrev no_row : Row
no_row = record { task = 0; cb = 0; rb = 0; rl = 0; pb = 0; pl = 0; db = 0; dl = 0; kind = 0; psw = 0 }

pub loop-row-preserved : goal.loop-row-preserved
loop-row-preserved c =
    let i = c.loop-row.row-index in
    let h : length c.args.rows ≡ 7 = search rules in
    let below : i < c.min.result = omega (arith, length-take c.min.result c.args.rows) in
    let listed : i < c.args.n = omega arith in
    record {
      same_buffer = search rules;
      going = goes _ _ _ _ _ _ i no_row _ _ c.loop-row.invariant.going (omega (arith, length-take c.args.n c.args.rows))
          (get_or-take c.args.n c.args.rows i no_row listed ∙ sym (get_or-take c.min.result c.args.rows i no_row below)) c.own_counts.ensures c.push_row.ensures.bound c.push_row.ensures.text.bytes;
    }

pub returns : goal.returns
returns c =
    let h : length c.args.rows ≡ 7 = search rules in
    let taken = length-take c.min.result c.args.rows in
    let e = ends _ _ _ _ _ _ c.loop-row.invariant.going (omega (arith, length-take c.args.n c.args.rows, taken)) (omega (arith, taken)) in
    record { bound = e.0; text = record { same_buffer = c.loop-row.invariant.same_buffer; bytes = e.1 } }
