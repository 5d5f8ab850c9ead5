use Rattle.std.proofs.Common.{◌≡◌, ◌++◌, ◌∙◌, append_assoc, true, sym, ap, subst, take}
use Rattle.std.specs.Prelude.{insert}
use Rattle.std.proofs.lemmas.List.{take-append-drop}
use Rattle.presence_set.specs.Blocks.{pairs_in, has_pair, AreNonEmpty}
use Rattle.presence_set.proofs.BlockLaws.{high_has}
use Rattle.presence_set.proofs.blocks.cut_first.Goals as goal

pub returns-clause-same : goal.returns-clause-same
returns-clause-same g c =
    let first = c.args.first.now.0 in
    let rest = c.args.rest.now.items in
    let low = c.split_off.new.self.0 in
    let high = c.in_ok-high.high in
    ap (λ l. low ++ pairs_in l) (c.in-Ok.ensures.items ∙ ap (λ l. insert l 0 high) c.reserve.ensures.items)
    ∙ sym (append_assoc low high.0 (pairs_in rest))
    ∙ ap (λ l. l ++ pairs_in rest)
    (ap (λ l. l ++ high.0) c.in_ok-high.ensures.low ∙ ap (λ l. take c.args.place first ++ l) c.in_ok-high.ensures.high ∙ take-append-drop c.args.place first)

pub returns-clause-filled : goal.returns-clause-filled
returns-clause-filled g c =
    let high = subst (λ l. has_pair l ≡ true) (sym c.in_ok-high.ensures.high) (high_has c.args.place c.args.first.now.0 c.requires.inside) in
    subst AreNonEmpty (sym (c.in-Ok.ensures.items ∙ ap (λ l. insert l 0 c.in_ok-high.high) c.reserve.ensures.items)) (high, c.requires.filled)
