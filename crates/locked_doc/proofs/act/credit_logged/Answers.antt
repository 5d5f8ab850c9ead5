use Rattle.std.proofs.Common.{◌≡◌, ◌+◌, ◌-◌, List, ◌++◌, length, take, drop, ap, sym, ◌∙◌, arith}
use Rattle.std.proofs.Math.Seq.{drop-append_seam}
use Rattle.std.proofs.lemmas.List.{take_rest}
use Rattle.lamport_id.specs.declared.id.Id.{Id}
use Rattle.op_core.specs.Op.{Op}
use Rattle.share_ledger.specs.Counters.{Counter, seat_counter}
use Rattle.doc_rules.specs.Seats.{operation_ids}
use Rattle.locked_doc.proofs.act.credit_logged.Goals as goal

pub acknowledge-requires : goal.acknowledge-requires
acknowledge-requires g c = c.requires.counter

pub credit-requires-clause-counter : goal.credit-requires-clause-counter
credit-requires-clause-counter g c =
    let book = c.acknowledge.ensures.book in
    let share = c.acknowledge.ensures.share in (
      ap (λ (x : Counter). x.number) book ∙ (c.requires.counter.0 ∙ sym (ap (λ (x : Counter). x.number) share)),
      ap (λ (x : Counter). x.seat) book ∙ (c.requires.counter.1 ∙ sym (ap (λ (x : Counter). x.seat) share)),
    )

pub credit-requires-clause-fits : goal.credit-requires-clause-fits
credit-requires-clause-fits g c = omega (arith, ap (λ (x : Counter). x.count) c.acknowledge.ensures.book, c.requires.fits)

pub returns-clause-book : goal.returns-clause-book
returns-clause-book g c =
    let b = c.args.book.now in
    let old = c.args.ids.now.items in
    let more = length c.args.log.now - c.args.before in
    let new = operation_ids (drop c.args.before c.args.log.now) in
    let ids : c.as_slice.result.now ≡ old ++ new = c.as_slice.ensures.value ∙ (c.add_ids.ensures ∙ ap (λ (ops : List Op). old ++ operation_ids ops) (take_rest c.args.log.now c.args.before)) in
    let told : take (length c.as_slice.result.now - c.len-told.result) (drop c.len-told.result c.as_slice.result.now) ≡ new =
    take_rest c.as_slice.result.now c.len-told.result ∙ ((λ i. drop ((c.len-told.ensures ∙ c.args.ids.now.ok.0) i) (ids i)) ∙ drop-append_seam old new) in
    c.credit.ensures.book ∙ ap (λ (x : Counter). seat_counter x.number x.seat (x.count + more) x.ids) c.acknowledge.ensures.book
    ∙ ap (λ (ids : List Id). seat_counter b.number b.seat (b.count + more) (b.ids ++ ids)) told

pub returns-clause-share : goal.returns-clause-share
returns-clause-share g c =
    let s = c.args.share.now in
    let old = c.args.ids.now.items in
    let more = length c.args.log.now - c.args.before in
    let new = operation_ids (drop c.args.before c.args.log.now) in
    let ids : c.as_slice.result.now ≡ old ++ new = c.as_slice.ensures.value ∙ (c.add_ids.ensures ∙ ap (λ (ops : List Op). old ++ operation_ids ops) (take_rest c.args.log.now c.args.before)) in
    let told : take (length c.as_slice.result.now - c.len-told.result) (drop c.len-told.result c.as_slice.result.now) ≡ new =
    take_rest c.as_slice.result.now c.len-told.result ∙ ((λ i. drop ((c.len-told.ensures ∙ c.args.ids.now.ok.0) i) (ids i)) ∙ drop-append_seam old new) in
    c.credit.ensures.share ∙ ap (λ (x : Counter). seat_counter x.number x.seat (x.count + more) x.ids) c.acknowledge.ensures.share
    ∙ ap (λ (ids : List Id). seat_counter s.number s.seat (s.count + more) (s.ids ++ ids)) told

pub returns-clause-agree : goal.returns-clause-agree
returns-clause-agree g c = c.acknowledge.ensures.agree
