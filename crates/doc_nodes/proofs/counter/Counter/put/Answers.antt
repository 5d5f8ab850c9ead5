use Rattle.std.proofs.Common.{◌≡◌, ◌<◌, [], false, true, unwrap_or, ap, length, sym, ◌∙◌, true≢false, arith}
use mir.Syntax.{w64}
use mir.Val.{to_z, of_z}
use Rattle.doc_nodes.proofs.Counted.{length-put}
use Rattle.doc_nodes.proofs.counter.Counter.put.Goals as goal

pub invariant_of-numbers : goal.invariant_of-numbers
invariant_of-numbers c =
    let old = c.numbers.inside.entries in
    let is = c.numbers.view_is ∙ ap (λ o. unwrap_or o ([], false)) c.in-Some.ensures.value ∙ c.self.view_is in
    let has_room : old.1 ≡ true = ap (λ z. z.1) is ∙ c.requires in
    let below : c.numbers.inside.most < 18446744073709551615 = c.numbers.invariant.room has_room in
    let more = length-put old.0 c.args.id (to_z w64 (of_z w64 c.args.number)) in
    record {
      few = omega (arith, c.numbers.invariant.few, more, ap (λ z. length z.0) c.put.ensures);
      within = omega (arith, below);
      room = λ is. absurd (true≢false (sym is ∙ ap (λ z. z.1) c.put.ensures));
    }
