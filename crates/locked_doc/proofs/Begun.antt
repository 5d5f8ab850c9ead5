-- What a document begins with stays its beginning.
use Rattle.std.proofs.Common.{◌≡◌, ◌≢◌, ℕ, ◌+◌, ◌-◌, ◌<◌, List, [], ◌++◌, length, replicate, append_assoc, append-nil, refl, sym, ap, subst, ◌∙◌, arith}
use Rattle.std.specs.Prelude.{sum}
use Rattle.share_ledger.specs.Begun.{Origin, MayBeNamed}
use Rattle.doc_api.specs.declared.ask.Command.{Command}
use Rattle.doc_api.specs.declared.reply.Reply.{Reply}
use Rattle.doc_rules.specs.Replica.{Replica}
use Rattle.doc_rules.specs.Events.{Event}
use Rattle.doc_rules.specs.Document.{Document, IsSound, by, count_of, for_seat}
use Rattle.doc_rules.specs.Seats.{Seat, AreEndsOf, told_counts}
use Rattle.doc_rules.proofs.Gathered.{ends_add_up}
use Rattle.doc_rules.proofs.Shares.{by-replicate_same}
use Rattle.doc_rules.proofs.Shared.{acts_gives, event_on, share_is}
use Rattle.locked_doc.specs.Locked.{Begins, document_of}

-- a new document begins with all that it has
pub begins_new : (first : Origin) (r : Replica) (count seats opened copied : ℕ) → r.log ≡ first.log → MayBeNamed first r.name → count ≡ length r.log
    → Begins first (document_of r (replicate count 0) seats opened copied)
begins_new first r count seats opened copied is named so_many =
    ([], is ∙ sym (append-nil first.log), ap (λ n. by 0 r.log (replicate n 0)) so_many ∙ by-replicate_same 0 r.log ∙ is, named)

-- what is logged for a seat comes behind it, under the same name
pub begins_after : (first : Origin) (d : Document) (seat : ℕ) (command : Command) (reply : Reply) (s : Replica) (seats_of : List ℕ) (seats opened copied : ℕ)
    → length d.seats_of ≡ length d.replica.log → 0 < seat → Event d.replica command reply s → seats_of ≡ d.seats_of ++ replicate (length s.log - length d.replica.log) seat
    → Begins first d → Begins first (document_of s seats_of seats opened copied)
begins_after first d seat command reply s seats_of seats opened copied each some event grown begun =
    let given = acts_gives d (for_seat seat s d) seat command reply each (s, event, refl) in
    let other : seat ≢ 0 = λ none. absurd (omega (arith, some, none)) in (
      begun.0 ++ given.new,
      given.log ∙ ap (λ log. log ++ given.new) begun.1 ∙ append_assoc first.log begun.0 given.new,
      ap (by 0 s.log) grown ∙ given.others 0 other ∙ begun.2,
      subst (MayBeNamed first) (sym (event_on d.replica s command reply event).name) begun.3,
    )

-- so many of its operations are of seat 0
pub share_of_first : (first : Origin) (d : Document) → IsSound d → Begins first d → count_of 0 d.seats_of ≡ length first.log
share_of_first first d sound begun = sym (share_is d 0 sound) ∙ ap length begun.2

-- what is acknowledged to the ends, and what the document began with, is all that is logged
pub acknowledged_and_begun : (first : Origin) (number : ℕ) (d : Document) (ends : List Seat) → IsSound d × Begins first d → AreEndsOf number d ends
    → sum (told_counts ends) + length first.log ≡ length d.replica.log
acknowledged_and_begun first number d ends kept are = omega (arith, ends_add_up number d ends kept.0 are, share_of_first first d kept.0 kept.1)
