use Rattle.std.proofs.Common.{◌≡◌, true, false, get_or, sym, ap, ◌∙◌}
use Rattle.std.specs.Prelude.{bytes_eq}
use Rattle.session_core.proofs.Owners.{number-here, number-next}
use Rattle.session_core.proofs.alone.number_of_name.Goals as goal

pub returns-then-eq : goal.returns-then-eq
returns-then-eq c =
    let name = c.args.name.now in
    let here : bytes_eq (get_or c.args.names.now c.loop-i.i c.index-names-i.result) name ≡ true =
    ap (λ n. bytes_eq n name) (sym (c.as_str.ensures ∙ c.index-names-i.is)) ∙ sym c.eq.ensures ∙ c.if-eq.true in
    number-here name c.args.names.now c.loop-i.i c.index-names-i.result c.loop-i-test.true here c.loop-i.invariant

pub loop-i-preserved : goal.loop-i-preserved
loop-i-preserved c =
    let name = c.args.name.now in
    let other : bytes_eq (get_or c.args.names.now c.loop-i.i c.index-names-i.result) name ≡ false =
    ap (λ n. bytes_eq n name) (sym (c.as_str.ensures ∙ c.index-names-i.is)) ∙ sym c.eq.ensures ∙ c.if-eq.false in
    number-next name c.args.names.now c.loop-i.i c.index-names-i.result c.loop-i-test.true other c.loop-i.invariant
