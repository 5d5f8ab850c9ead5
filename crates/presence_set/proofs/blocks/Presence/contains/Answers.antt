use Rattle.std.proofs.Common.{◌≡◌, ◌∙◌, suc, rules, lit<, sym, ap, subst, get_or}
use Rattle.presence_set.specs.ById.{contains, IsAscending}
use Rattle.presence_set.specs.Blocks.{pairs_in, blocks_by, blocks_in, AreNonEmpty}
use Rattle.presence_set.proofs.BlockLaws.{rising_parts, contains_first, contains_rest}
use Rattle.presence_set.proofs.blocks.Presence.contains.Goals as goal

pub blocks_by-requires : goal.blocks_by-requires
blocks_by-requires c = (
  lit< tt,
  (
    subst AreNonEmpty (sym c.later_blocks-blocks.ensures) c.self.invariant.0.filled,
    subst (λ l. IsAscending (pairs_in l)) (sym c.later_blocks-blocks.ensures) (rising_parts c.self.inside.first.0 (pairs_in (blocks_in c.self.inside.later)) c.self.invariant.0.rising).1,
  ),
)

pub returns-in-None : goal.returns-in-None
returns-in-None c =
    let first = c.self.inside.first in
    let rest = blocks_in c.self.inside.later in
    let id = c.args.id in
    let none : c.blocks_by.result ≡ 0 = search rules in
    let at : blocks_by id rest ≡ 0 = ap (blocks_by id) (sym c.later_blocks-blocks.ensures) ∙ sym c.blocks_by.ensures.value ∙ none in
    rw (← c.self.view_is) (c.contains.ensures ∙ sym (contains_first first.0 rest id c.self.invariant.0.rising c.self.invariant.0.filled at))

pub returns-in-Some : goal.returns-in-Some
returns-in-Some c =
    let first = c.self.inside.first in
    let rest = blocks_in c.self.inside.later in
    let id = c.args.id in
    let k = c.in-Some.at in
    let d = c.index-blocks-at.result in
    let more : c.blocks_by.result ≡ suc k = search rules in
    let at : blocks_by id rest ≡ suc k = ap (blocks_by id) (sym c.later_blocks-blocks.ensures) ∙ sym c.blocks_by.ensures.value ∙ more in
    let here : d ≡ get_or c.later_blocks-blocks.result.now k d = search rules in
    let is : d ≡ get_or rest k d = here ∙ ap (λ l. get_or l k d) c.later_blocks-blocks.ensures in
    rw (← c.self.view_is)
    (c.contains-in-Some.ensures ∙ ap (λ b. contains b.0 id) is ∙ sym (contains_rest first.0 rest id k d c.self.invariant.0.rising c.self.invariant.0.filled at))
