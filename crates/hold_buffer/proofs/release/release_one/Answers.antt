use Rattle.std.proofs.Common.{◌≡◌, ◌∙◌, [], List, map, get_or, Contains, sym, ap, subst}
use Rattle.doc_api.specs.Words.{id_cmp, Id}
use Rattle.list_laws.specs.Sorted.{IsGap}
use Rattle.hold_buffer.specs.Order.{without_id}
use Rattle.hold_buffer.specs.declared.entry.Entry.{Entry}
use Rattle.hold_buffer.proofs.Waiting.{read_within}
use Rattle.hold_buffer.proofs.Released.{one_same, one_released, none_there, none_named}
use Rattle.hold_buffer.proofs.release.release_one.Goals as goal

abbrev some : goal.After-release_at → Entry
some c = record { id = c.args.id.now; key = c.args.key; missing = [] }

-- the entry at the place
abbrev found : goal.After-release_at → Entry
found c = get_or c.args.order.now.items c.in-Ok.at (some c)

read : (c : goal.After-release_at) → found c ≡ get_or c.args.order.now.items c.in-Ok.at (found c)
read c =
    let place = c.in-Ok.ensures in
    read_within c.args.order.now.items c.in-Ok.at (some c) (found c) place.within

pub returns-in-Ok-clause-same : goal.returns-in-Ok-clause-same
returns-in-Ok-clause-same c =
    let place = c.in-Ok.ensures in
    ap (map (without_id c.args.id.now)) (c.release_at.ensures.order (some c))
    ∙ one_same c.requires.ordered c.args.id.now c.in-Ok.at (found c) place.within (read c)

pub returns-in-Ok-clause-released : goal.returns-in-Ok-clause-released
returns-in-Ok-clause-released c u among waits =
    let place = c.in-Ok.ensures in
    let name : c.in-Some.op.now.id ≡ (found c).id = sym c.id.ensures.value ∙ sym (place.has_key (some c)) in
    one_released c.requires.ordered c.args.id.now c.in-Ok.at (found c) place.within (read c) c.args.key c.in-Some.op.now (sym c.in-Some.ensures) name u
    (subst (λ (l : List Entry). Contains l u) (c.release_at.ensures.order (some c)) among) waits

pub returns-in_default-search-clause-released : goal.returns-in_default-search-clause-released
returns-in_default-search-clause-released c u among waits =
    let gap = c.in_default-search.ensures in (
      among,
      none_named c.requires.ordered c.args.key c.in-Some.op.now c.in_default-search.field-0 (sym c.in-Some.ensures)
          (subst (λ (i : Id). IsGap id_cmp (λ (t : Entry). t.id) c.args.order.now.items i c.in_default-search.field-0) c.id.ensures.value gap) u among,
    )

pub returns-in_default-clause-released : goal.returns-in_default-clause-released
returns-in_default-clause-released c u among waits = (among, none_there c.requires.ordered c.args.key (sym c.in_default.ensures) u among)
