use Rattle.std.proofs.Common.{◌≡◌, ◌<◌, ◌≤◌, length, refl, ap, sym, subst, ◌∙◌, arith}
use Rattle.share_ledger.specs.Counters.{Counter}
use Rattle.doc_api.specs.declared.reply.Reply.TheVariants.{Account}
use Rattle.doc_rules.specs.Document.{by, count_of}
use Rattle.doc_rules.specs.Answers.{MayAnswer, Reads}
use Rattle.doc_rules.specs.Seats.{operation_ids}
use Rattle.locked_doc.specs.Locked.{document_of}
use Rattle.locked_doc.specs.Books.{counter_of}
use Rattle.locked_doc.proofs.Counted.{book_at}
use Rattle.locked_doc.proofs.doc.LockedDoc.read_for.Goals as goal

pub returns-clause-answers : goal.returns-clause-answers
returns-clause-answers g c =
    let d = c.self.inside in
    let s = c.seat-seat_number.result in
    let mine = rw (← c.self.view_is, ← c.seat.view_is) at c.requires in
    let some : 0 < s = omega (arith, mine.1, c.seat-seat_number.ensures) in
    let within : s ≤ d.opened = omega (arith, mine.2, c.seat-seat_number.ensures) in
    let book : c.index.result.now ≡ counter_of d.number d.replica.log d.seats_of.items s =
    book_at d.number (document_of d.replica d.seats_of.items (length d.books.items) d.opened d.copied) d.books.items d.unopened.items s c.index.result.now c.self.invariant.0 some within c.index.ensures in
    let share : c.seat.inside.share.count ≡ count_of c.seat.inside.share.seat d.seats_of.items =
    sym (ap (λ (b : Counter). b.count) c.agree.ensures) ∙ (ap (λ (b : Counter). b.count) book ∙ ap (λ k. count_of k d.seats_of.items) c.seat-seat_number.ensures) in
    rw (← c.self.view_is, ← c.seat.view_is)
    (record {
      reads = subst (λ n. MayAnswer d.replica (record { mine = n; copied = d.copied }) c.args.query c.read-reply.result) (c.count.ensures ∙ share) c.read-reply.ensures.answer;
      told = refl;
      counted = sym share ∙ c.seat.invariant.0;
      answer = record {
        same = (refl, refl);
        calls = ap (λ x. x.calls) c.count-2.ensures.calls;
        of = (c.number-number.ensures, c.seat-seat_number.ensures, ap (λ x. x.calls) c.count-2.ensures.stamp);
      };
    })

pub returns-clause-counted : goal.returns-clause-counted
returns-clause-counted g c =
    let d = c.self.inside in
    let s = c.seat-seat_number.result in
    let mine = rw (← c.self.view_is, ← c.seat.view_is) at c.requires in
    let some : 0 < s = omega (arith, mine.1, c.seat-seat_number.ensures) in
    let within : s ≤ d.opened = omega (arith, mine.2, c.seat-seat_number.ensures) in
    let book : c.index.result.now ≡ counter_of d.number d.replica.log d.seats_of.items s =
    book_at d.number (document_of d.replica d.seats_of.items (length d.books.items) d.opened d.copied) d.books.items d.unopened.items s c.index.result.now c.self.invariant.0 some within c.index.ensures in
    let share : c.seat.inside.share.count ≡ count_of c.seat.inside.share.seat d.seats_of.items =
    sym (ap (λ (b : Counter). b.count) c.agree.ensures) ∙ (ap (λ (b : Counter). b.count) book ∙ ap (λ k. count_of k d.seats_of.items) c.seat-seat_number.ensures) in
    rw (← c.self.view_is, ← c.seat.view_is)
    (λ is. subst (λ n. Reads d.replica (record { mine = n; copied = d.copied }) c.args.query c.read-reply.result) (c.count.ensures ∙ share) (c.read-reply.ensures.counted is))

pub returns-clause-account : goal.returns-clause-account
returns-clause-account g c =
    rw (← c.seat.view_is) (λ is. c.read-reply.ensures.account is ∙ ap Account (c.count.ensures ∙ c.seat.invariant.0))

pub returns-clause-told : goal.returns-clause-told
returns-clause-told g c =
    let d = c.self.inside in
    let s = c.seat-seat_number.result in
    let mine = rw (← c.self.view_is, ← c.seat.view_is) at c.requires in
    let some : 0 < s = omega (arith, mine.1, c.seat-seat_number.ensures) in
    let within : s ≤ d.opened = omega (arith, mine.2, c.seat-seat_number.ensures) in
    let book =
    book_at d.number (document_of d.replica d.seats_of.items (length d.books.items) d.opened d.copied) d.books.items d.unopened.items s c.index.result.now c.self.invariant.0 some within c.index.ensures in
    rw (← c.self.view_is, ← c.seat.view_is)
    (ap (λ k. operation_ids (by k d.replica.log d.seats_of.items)) (sym c.seat-seat_number.ensures)
    ∙ (sym (ap (λ (b : Counter). b.ids) book) ∙ (ap (λ (b : Counter). b.ids) c.agree.ensures ∙ c.seat.invariant.1)))
