use Rattle.std.proofs.Common.{◌≡◌, ◌∙◌, [], get_or, Contains, Bool, true, false, if◌then◌else◌, sym, ap, subst}
use Rattle.key_map.proofs.ByKeyLaws.{at_key-own}
use Rattle.key_map.specs.Blocks.{joined}
use Rattle.key_map.proofs.Gone.{get_or-but_gone, in_joined}
use Rattle.small_values.proofs.Made.{seen}
use Rattle.key_map.proofs.map.KeyMap.block.Goals as goal

pub returns-then-is_gone-clause-value : goal.returns-then-is_gone-clause-value
returns-then-is_gone-clause-value g c =
    let gone = c.map.inside.gone.items in
    let blocks = c.map.inside.blocks.items in
    let is : get_or gone c.args.at false ≡ true =
    ap (λ l. get_or l c.args.at false) (sym c.as_slice.ensures.value) ∙ sym c.if-is_gone.ensures in
    rw (← seen ([], []) c.in-Some.ensures c.self.view_is, ← c.map.view_is)
    (sym (get_or-but_gone gone blocks c.args.at ∙ ap (λ (b : Bool). if b then [] else get_or blocks c.args.at []) is))

pub returns-clause-value : goal.returns-clause-value
returns-clause-value g c =
    let gone = c.map.inside.gone.items in
    let blocks = c.map.inside.blocks.items in
    let isnt : get_or gone c.args.at false ≡ false =
    ap (λ l. get_or l c.args.at false) (sym c.as_slice.ensures.value) ∙ sym c.if-is_gone.ensures in
    rw (← seen ([], []) c.in-Some.ensures c.self.view_is, ← c.map.view_is)
    (c.entries_of.ensures ∙ ap (λ l. get_or l c.args.at []) c.as_slice-2.ensures.value
    ∙ sym (get_or-but_gone gone blocks c.args.at ∙ ap (λ (b : Bool). if b then [] else get_or blocks c.args.at []) isnt))

pub returns-clause-some : goal.returns-clause-some
returns-clause-some g c =
    let blocks = c.map.inside.blocks.items in
    rw (← seen ([], []) c.in-Some.ensures c.self.view_is, ← c.map.view_is)
    (λ e there.
    at_key-own (joined blocks) c.map.invariant.rising e
    (in_joined blocks c.args.at e
    (subst (λ l. Contains l e) (c.entries_of.ensures ∙ ap (λ l. get_or l c.args.at []) c.as_slice-2.ensures.value) there)))
