use Rattle.std.proofs.Common.{◌≡◌, ◌∙◌, suc, rules, None, Some, sym, ap, subst, get_or}
use Rattle.std.specs.Prelude.{MatchOption}
use Rattle.presence_set.specs.ById.{get, IsAscending}
use Rattle.presence_set.specs.Blocks.{pairs_in, blocks_by, blocks_in, AreNonEmpty}
use Rattle.presence_set.proofs.BlockLaws.{rising_parts, get_first, get_rest}
use Rattle.presence_set.proofs.id_blocks.IdBlocks.get.Goals as goal

pub blocks_by-requires : goal.blocks_by-requires
blocks_by-requires g c = (
  search rules,
  (
    subst AreNonEmpty (sym c.later_blocks-blocks.ensures) c.self.invariant.filled,
    subst (λ l. IsAscending (pairs_in l)) (sym c.later_blocks-blocks.ensures) (rising_parts c.self.inside.first.0 (pairs_in (blocks_in c.self.inside.later)) c.self.invariant.rising).1,
  ),
)

pub returns-in-None : goal.returns-in-None
returns-in-None g c =
    let first = c.self.inside.first in
    let rest = blocks_in c.self.inside.later in
    let id = c.args.id.now in
    let none : c.blocks_by.result ≡ 0 = search rules in
    let at : blocks_by id rest ≡ 0 = ap (blocks_by id) (sym c.later_blocks-blocks.ensures) ∙ sym c.blocks_by.ensures.value ∙ none in
    rw (← c.self.view_is)
    (subst (λ o. MatchOption c.get.result (o ≡ None) (λ x. o ≡ Some x.now)) (sym (get_first first.0 rest id c.self.invariant.rising c.self.invariant.filled at)) c.get.ensures)

pub returns-in-Some : goal.returns-in-Some
returns-in-Some g c =
    let first = c.self.inside.first in
    let rest = blocks_in c.self.inside.later in
    let id = c.args.id.now in
    let k = c.in-Some.at in
    let d = c.index-blocks-at.result in
    let more : c.blocks_by.result ≡ suc k = search rules in
    let at : blocks_by id rest ≡ suc k = ap (blocks_by id) (sym c.later_blocks-blocks.ensures) ∙ sym c.blocks_by.ensures.value ∙ more in
    let here : d ≡ get_or c.later_blocks-blocks.result.now k d = search rules in
    let is : d ≡ get_or rest k d = here ∙ ap (λ l. get_or l k d) c.later_blocks-blocks.ensures in
    rw (← c.self.view_is)
    (subst (λ o. MatchOption c.get-in-Some.result (o ≡ None) (λ x. o ≡ Some x.now))
    (ap (λ b. get b.0 id) is ∙ sym (get_rest first.0 rest id k d c.self.invariant.rising c.self.invariant.filled at)) c.get-in-Some.ensures)
