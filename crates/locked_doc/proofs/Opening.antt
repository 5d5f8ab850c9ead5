-- The next seat of a document, and the next number of its copied operations.
use Rattle.std.proofs.Common.{◌≡◌, ℕ, ◌+◌, ◌<◌, ◌≤◌, length, nat_lt, nat_le, true, Result, Ok, ap, sym, ◌∙◌, arith}
use Rattle.std.proofs.lemmas.Bool.Decides.{Decides-ltb, nat_tests}
use Rattle.json_scalar.specs.declared.refusal.Refusal.{Refusal}
use Rattle.doc_rules.specs.Document.{Document, opens, copied_to}
use Rattle.doc_rules.specs.Seats.{Seat}
use Rattle.locked_doc.specs.Locked.{seat_just_opened, seat_opened}

pub opens_next : (d : Document) → d.opened < d.seats → ((opens d).0 ≡ Ok (d.opened + 1)) × ((opens d).1 ≡ record d { opened = d.opened + 1 })
opens_next d some =
    let here : nat_lt d.opened d.seats ≡ true = (Decides-ltb d.opened d.seats).1 some in
    (rw here, rw here)

pub seat_next : (number : ℕ) (d : Document) (s : Seat) → d.opened < d.seats → s ≡ seat_just_opened number (d.opened + 1)
    → (r : Result Seat Refusal) → r ≡ Ok s → r ≡ seat_opened number (opens d).0
seat_next number d s some is r same = same ∙ ap Ok is ∙ sym (ap (seat_opened number) (opens_next d some).0)

at_most : (a b : ℕ) → a ≤ b → nat_le a b ≡ true
at_most a b less = grind (arith, nat_tests)

-- a number that may be noted
pub copied_next : (n : ℕ) (d : Document) → d.copied ≤ n → n ≤ length d.replica.log → copied_to n d ≡ record d { copied = n }
copied_next n d least most =
    let from : nat_le d.copied n ≡ true = at_most d.copied n least in
    let to : nat_le n (length d.replica.log) ≡ true = at_most n (length d.replica.log) most in
    rw (from, to)
