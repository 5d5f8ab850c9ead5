use Rattle.std.proofs.Common.{◌≡◌, ◌∙◌, sym, ap}
use Rattle.doc_api.specs.Words.{Id}
use Rattle.hold_buffer.proofs.Names.{other_counter, gap_absent}
use Rattle.hold_buffer.proofs.missing.searched_index.Goals as goal

pub returns-in_default : goal.returns-in_default
returns-in_default c =
    let x = c.index-ids-at.result in
    let place = c.in-Ok.ensures in
    let name : x.replica ≡ c.args.id.now.replica = ap (λ (i : Id). i.replica) c.index-ids-at.is ∙ place.has_key x in
    other_counter c.args.ids.now c.args.id.now c.in-Ok.at x c.requires place.within c.index-ids-at.is name
    (λ same. c.if-ids-at.false (ap (λ (i : Id). i.counter) (sym c.index-ids-at.is ∙ same)))

pub returns-in_default-2 : goal.returns-in_default-2
returns-in_default-2 c = gap_absent c.args.ids.now c.args.id.now _ c.in_default.ensures
