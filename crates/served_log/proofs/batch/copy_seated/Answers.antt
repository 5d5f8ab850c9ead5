use Rattle.std.proofs.Common.{rules, ◌<◌, length, ◌∙◌}
use Rattle.served_log.proofs.Knowing.{known_behind, number_at, numbered_set, others_stay}
use Rattle.served_log.proofs.batch.copy_seated.Goals as goal

pub copy_some-requires : goal.copy_some-requires
copy_some-requires g c =
    let inside : c.args.document.now.doc_index < length c.seats.inside.seats.items = search rules in
    number_at c.seats.inside.seats.items c.args.document.now.doc_index _ c.seats.invariant inside c.index_mut-seat.ensures.value

pub invariant_of-seats : goal.invariant_of-seats
invariant_of-seats g c =
    let inside : c.args.document.now.doc_index < length c.seats.inside.seats.items = search rules in
    numbered_set c.seats.inside.seats.items c.args.document.now.doc_index _ c.seats.invariant
    (c.copy_some.ensures.stays ∙ number_at c.seats.inside.seats.items c.args.document.now.doc_index _ c.seats.invariant inside c.index_mut-seat.ensures.value)

pub returns-clause-known : goal.returns-clause-known
returns-clause-known g c =
    let document = c.args.document.now in
    let inside : c.args.document.now.doc_index < length c.seats.inside.seats.items = search rules in
    let others = others_stay g.M.Marker.origin document.doc_index (λ l. (g.L.StoredLog.log l).docs) document.name.now c.copy_some.result c.args.stored.now c.copy_some.new.stored c.copy_some.ensures.some c.copy_some.ensures.none c.copy_some.ensures.err in
    rw (← c.seats.view_is) (known_behind document.shared.now.names.items _ _ c.seats.inside.seats.items document.doc_index document.name.now _ _ document.within inside document.named c.index_mut-seat.ensures.value others c.copy_some.ensures.known)
