use Rattle.std.proofs.Common.{rules, ◌≡◌, [], length, get_or, set, Contains, false, Some, sym, subst}
use Rattle.std.proofs.lemmas.List.{nil_from_length}
use Rattle.key_map.specs.Blocks.{joined, but_gone}
use Rattle.key_map.specs.ByKey.{at_key}
use Rattle.key_map.proofs.ByKeyLaws.{at_key-Contains}
use Rattle.key_map.proofs.Gone.{but_gone-kept, less_gone, not_gone, noted_at}
use Rattle.small_values.proofs.Made.{seen}
use Rattle.key_map.proofs.map.KeyMap.note_present.Goals as goal

pub returns-then-is_empty-clause-noted : goal.returns-then-is_empty-clause-noted
returns-then-is_empty-clause-noted g c =
    let blocks = c.map.inside.blocks.items in
    let key = c.args.key.now in
    let none : length c.map.inside.gone.items ≡ 0 = search rules in
    rw (← seen ([], []) c.in-Some.ensures.value c.self.view_is, ← c.map.view_is)
    (λ n e.
    subst (λ g. Contains (joined (but_gone g blocks)) (key, n)) (sym (nil_from_length c.map.inside.gone.items none))
    (at_key-Contains (joined blocks) key n e))

pub returns-clause-kept : goal.returns-clause-kept
returns-clause-kept g c =
    let gone = c.map.inside.gone.items in
    let blocks = c.map.inside.blocks.items in
    let at = c.block_beside-at.result in
    rw (c.note.ensures, ← seen ([], []) c.in-Some.ensures.value c.self.view_is, ← c.map.view_is)
    (λ e there. but_gone-kept gone (set gone at false) blocks blocks e (less_gone gone at) (λ m x. x) there)

pub returns-clause-noted : goal.returns-clause-noted
returns-clause-noted g c =
    let gone = c.map.inside.gone.items in
    let blocks = c.map.inside.blocks.items in
    let key = c.args.key.now in
    let at = c.block_beside-at.result in
    rw (c.note.ensures, ← seen ([], []) c.in-Some.ensures.value c.self.view_is, ← c.map.view_is)
    (λ n e.
    noted_at (set gone at false) blocks at (key, n) (not_gone gone at)
    (subst (λ l. Contains (get_or l at []) (key, n)) c.as_slice.ensures.value
    (c.block_beside-at.ensures n (subst (λ l. at_key (joined l) key ≡ Some n) (sym c.as_slice.ensures.value) e))))
