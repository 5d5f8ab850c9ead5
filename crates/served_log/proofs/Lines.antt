-- What a server writes.
use Rattle.std.proofs.Common.{◌≡◌, ◌<◌, ◌≤◌, ◌+◌, ◌++◌, ℕ, List, [], map, drop, get_or, length, Option, Result, Ok, IfOk, refl, ap, subst, ◌∙◌, add-one, drop-cons}
use Rattle.std.proofs.lemmas.List.{drop_all}
use Rattle.std.specs.Borrow.{Bor}
use Rattle.std.specs.Io.KnownBytes.{Appends}
use Rattle.session_rules.specs.declared.Ending.{Ending}
use Rattle.doc_rules.specs.Seats.{Seat}
use Rattle.locked_doc.specs.Followed.{Followed, Copying}
use Rattle.locked_doc.specs.declared.gather.Totals.{Totals}
use Rattle.server_core.specs.Attended.{AreServed, Bytes}
use Rattle.server_core.specs.Sums.{AreTotalsFrom, ids_read}
use Rattle.share_ledger.specs.Begun.{Origin}
use Rattle.stored_log.specs.Docs.{Doc}
use Rattle.served_log.specs.Known.{AllDiffer, AreKnown, no_book, nothing_read}
use Rattle.served_log.specs.Totals.{AreStored, ServesSessions, total_line, total_lines}
use Rattle.served_log.proofs.Logged.{books_long, known_read, logged_from}

-- the line of one document, and those of the documents behind it
pub lines_step : (names : List (Bor (List ℕ))) (totals : List Totals) (i : ℕ) (n : Bor (List ℕ)) (t : Totals) → i < length names → i < length totals
    → total_lines (map (λ s. s.now) (drop i names)) (drop i totals)
    ≡ total_line (get_or names i n).now (get_or totals i t) ++ total_lines (map (λ s. s.now) (drop (i + 1) names)) (drop (i + 1) totals)
lines_step names totals i n t within there = rw (drop-cons names i n within, drop-cons totals i t there, add-one) refl

-- behind the last document nothing is left to write
pub lines_end : (names : List (Bor (List ℕ))) (totals : List Totals) (i : ℕ) → length names ≤ i
    → total_lines (map (λ s. s.now) (drop i names)) (drop i totals) ≡ []
lines_end names totals i past = rw (drop_all i names past) refl

-- what holds of a value that a call returned
pub of_ok : {X F : Type 0} (P : X → Type 0) {ran : Result X F} (x : X) → ran ≡ Ok x → IfOk ran P → P x
of_ok P x is holds = subst (λ r. IfOk r P) is holds

-- what sessions did over documents of these names, and what was written of it
pub serves : {C : Type 0} (bytes : C → Bytes) (follows : C → C → Type 0) (origin : ℕ → Origin) (last : List Doc) (shelved names : List (List ℕ)) (connections : List C)
    (endings : List (List (Option Ending))) (given : List (List (Option Seat))) (books : List Followed) (seats : List Copying) (totals : List Totals) (out_before out_after : Option (List ℕ))
    → shelved ≡ names → AreServed origin shelved bytes follows connections endings given → AreTotalsFrom origin 0 given (ids_read books) totals → length totals ≡ length shelved
    → ((k : ℕ) → k < length books → k < length seats → (get_or books k no_book).ids ≡ (get_or seats k nothing_read).ids) → (AllDiffer names → AreKnown last names seats)
    → AreStored last names totals → Appends out_before out_after (total_lines names totals) → ServesSessions bytes follows origin last names connections out_before out_after
serves bytes follows origin last shelved names connections endings given books seats totals out_before out_after same served added many agreed known stored written =
    let each : length totals ≡ length names = many ∙ ap length same in record {
      endings = endings;
      given = given;
      totals = totals;
      served = subst (λ ns. AreServed origin ns bytes follows connections endings given) same served;
      each = each;
      added = logged_from origin 0 given names last names (ids_read books) totals added stored
          (λ k less differ. known_read last names books seats (books_long origin 0 given books totals added ∙ each) agreed (known differ) k less);
      stored = stored;
      written = written;
    }
