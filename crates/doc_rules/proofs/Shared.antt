-- Each event of a document keeps it sound, and gives to its seat just what it acknowledges.
use Rattle.std.proofs.Common.{◌≡◌, ◌≢◌, inl, inr, ℕ, suc, ◌+◌, ◌-◌, ◌≤◌, List, [], ◌∷◌, ◌++◌, length, replicate, length-append, append_assoc, append-nil, nat_le, nat_lt, ◌&&◌, Bool, true, false, Option, Some, None, Result, Ok, Err, if◌then◌else◌, refl, sym, ap, subst, ◌∙◌, arith, leb-true}
use Rattle.std.specs.Prelude.{⊤}
use Rattle.std.proofs.lemmas.List.{length-replicate}
use Rattle.std.proofs.lemmas.List.Elements.{All-replicate, All-append}
use Rattle.std.proofs.lemmas.Bool.{and_parts}
use Rattle.lamport_id.specs.Name.{is_name}
use Rattle.doc_api.specs.Words.{Id, Refusal, Op, Cursor, Mutation}
use Rattle.list_laws.proofs.Members.{Contains-nil}
use Rattle.crdt_rules.specs.Log.{IsGood}
use Rattle.doc_rules.specs.Cause.{cause_of}
use Rattle.doc_rules.specs.Document.{Document, by, logged_by, count_of, total_of, count_in, for_seat, Acts, opens, copied_to, new_document, GivesTo, IsSound}
use Rattle.doc_rules.specs.Events.{Expected, replied, held, logged, Settles, expected_by_cause, changed_rows, expected_at_place, delivered_rows, expected_of_delivery, Forgets, Does, Event, IsWellMade}
use Rattle.doc_rules.specs.Replica.{Replica, find_id, own_op, GoesOn}
use Rattle.doc_api.specs.declared.ask.Command.{Command}
use Rattle.doc_api.specs.declared.ask.Command.TheVariants.{Change, Deliver, Forget}
use Rattle.doc_api.specs.declared.reply.Reply.{Reply}
use Rattle.doc_rules.proofs.Drained.{drain_goes_on}
use Rattle.doc_rules.proofs.Kept.{event_keeps}
use Rattle.doc_rules.proofs.Tables.{by_rows}
use Rattle.doc_rules.proofs.Shares.{length-by, by-append, by-replicate_same, by-replicate_other, total_of-all}

-- ---- the log grows by what is acknowledged

-- an answer that changes nothing counts no operation
abbrev CountsNone : Expected → Type 0
CountsNone (replied answer) = count_in answer ≡ 0
CountsNone _ = Unit {0}

by_cause_counts : (cause : Result ⊤ Refusal) (op : Op) → CountsNone (expected_by_cause cause op)
by_cause_counts (Ok x) op = tt
by_cause_counts (Err cause) op = refl

delivered_counts : (r : Replica) (op : Op) → CountsNone (expected_of_delivery r op)
delivered_counts r op =
    by_rows CountsNone (delivered_rows r op) (expected_by_cause (cause_of op r.log) op) (
      (λ is. refl),
      λ other. (
        (λ is. refl),
        λ other. (
          (λ is. refl),
          λ other. (
            (λ is. refl),
            λ other. (
              (λ is. refl),
              λ other. (
                (λ is. refl),
                λ other. (
                  (λ is. tt),
                  λ other.
                      by_cause_counts (cause_of op r.log) op,
                ),
              ),
            ),
          ),
        ),
      ),
    )

placed_counts : (r : Replica) (c : Result Cursor Refusal) (m : Mutation) → CountsNone (expected_at_place r c m)
placed_counts r (Err cause) m = refl
placed_counts r (Ok c) m =
    by_rows CountsNone (changed_rows r c m) (logged (own_op r c m))
    ((λ is. refl), λ other. ((λ is. refl), λ other. ((λ is. refl), λ other. ((λ is. refl), λ other. tt))))

-- the log stays
stays : {r s : Replica} (n : ℕ) → n ≡ 0 → s.name ≡ r.name → s.log ≡ r.log → GoesOn r n s
stays {r} n none name log = record { name = name; new = []; log = log ∙ sym (append-nil r.log); count = sym none }

settles_on : (r s : Replica) (due : Expected) (reply : Reply) → CountsNone due → Settles r due reply s → GoesOn r (count_in reply) s
settles_on r s (replied answer) reply none h = stays (count_in reply) (ap count_in h.0 ∙ none) (ap (λ x. x.name) h.1) (ap (λ x. x.log) h.1)
settles_on r s (held op) reply none h = stays (count_in reply) (ap count_in h.0) (ap (λ x. x.name) h.1) (ap (λ x. x.log) h.1)
settles_on r s (logged op) reply none h =
    let g = drain_goes_on h.drains in
    record {
      name = g.name;
      new = op ∷ g.new;
      log = g.log ∙ append_assoc r.log (op ∷ []) g.new;
      count = ap suc g.count ∙ sym (ap count_in h.reply_is);
    }

forgets_on : (r s : Replica) (i : Id) (found : Option Op) (reply : Reply) → Forgets r i found reply s → GoesOn r (count_in reply) s
forgets_on r s i None reply h = stays (count_in reply) (ap count_in h.0) (ap (λ x. x.name) h.1) (ap (λ x. x.log) h.1)
forgets_on r s i (Some o) reply h = stays (count_in reply) (ap count_in h.0) (ap (λ x. x.name) h.1) (ap (λ x. x.log) h.1)

does_on : (r s : Replica) (command : Command) (reply : Reply) → Does r command reply s → GoesOn r (count_in reply) s
does_on r s (Change place m) reply h = settles_on r s (expected_at_place r h.0 m) reply (placed_counts r h.0 m) h.2
does_on r s (Deliver op) reply h = settles_on r s (expected_of_delivery r op) reply (delivered_counts r op) h
does_on r s (Forget i) reply h = forgets_on r s i (find_id r.held i) reply h

pub event_on : (r s : Replica) (command : Command) (reply : Reply) → Event r command reply s → GoesOn r (count_in reply) s
event_on r s command reply (inl does) = does_on r s command reply does
event_on r s command reply (inr lacks) = stays (count_in reply) (ap count_in lacks.0) (ap (λ x. x.name) lacks.1) (ap (λ x. x.log) lacks.1)

-- ---- documents

pub acts_gives : (d e : Document) (seat : ℕ) (command : Command) (reply : Reply) → length d.seats_of ≡ length d.replica.log → Acts d seat command reply e
    → GivesTo d seat reply e
acts_gives d e seat command reply same h =
    let g = event_on d.replica h.0 command reply h.1 in
    let seats : e.seats_of ≡ d.seats_of ++ replicate (length g.new) seat =
    ap (λ x. x.seats_of) h.2
    ∙ ap (λ n. d.seats_of ++ replicate n seat) (more (length h.0.log) (length d.replica.log) (length g.new) (ap length g.log ∙ length-append d.replica.log g.new)) in
    let log : e.replica.log ≡ d.replica.log ++ g.new = ap (λ x. x.replica.log) h.2 ∙ g.log in
    let parts : (t : ℕ) → logged_by t e ≡ logged_by t d ++ by t g.new (replicate (length g.new) seat) =
    (λ t. (λ i. by t (log i) (seats i)) ∙ by-append t d.replica.log g.new d.seats_of (replicate (length g.new) seat) same) in
    record {
      new = g.new;
      count = g.count;
      log = log;
      mine = parts seat ∙ ap (λ l. logged_by seat d ++ l) (by-replicate_same seat g.new);
      others = λ t other. parts t ∙ ap (λ l. logged_by t d ++ l) (by-replicate_other t seat g.new other) ∙ append-nil (logged_by t d);
    }
  where
    more : (s r n : ℕ) → s ≡ r + n → s - r ≡ n
    more s r n e = omega arith

pub acts_sound : (d e : Document) (seat : ℕ) (command : Command) (reply : Reply) → is_name d.replica.name ≡ true → IsWellMade command → seat ≤ d.opened → IsSound d
    → Acts d seat command reply e → IsSound e
acts_sound d e seat command reply named made opened sound h = subst IsSound (sym h.2) (after h.0 h.1)
  where
    after : (s : Replica) → Event d.replica command reply s → IsSound (for_seat seat s d)
    after s event =
        let g = event_on d.replica s command reply event in
        let longer : length s.log ≡ length d.replica.log + length g.new = ap length g.log ∙ length-append d.replica.log g.new in
        let each = sound.each_has_a_seat in
        let within = sound.within in
        record {
          kept = event_keeps d.replica s command reply named made sound.kept event;
          each_has_a_seat =
              omega (arith, longer, each, length-append d.seats_of (replicate (length s.log - length d.replica.log) seat), length-replicate (length s.log - length d.replica.log) seat);
          opened_alone =
              All-append (λ t. t ≤ d.opened) d.seats_of (replicate (length s.log - length d.replica.log) seat) sound.opened_alone
              (All-replicate (λ t. t ≤ d.opened) (length s.log - length d.replica.log) seat opened);
          few = sound.few;
          within = omega (arith, longer, within);
        }

pub copied_sound : (n : ℕ) (d : Document) → IsSound d → IsSound (copied_to n d)
copied_sound n d sound = by (nat_le d.copied n && nat_le n (length d.replica.log)) refl
  where
    by : (b : Bool) → (nat_le d.copied n && nat_le n (length d.replica.log)) ≡ b → IsSound (if b then record d { copied = n } else d)
    by true e =
        record {
          kept = sound.kept;
          each_has_a_seat = sound.each_has_a_seat;
          opened_alone = sound.opened_alone;
          few = sound.few;
          within = leb-true n (length d.replica.log) (and_parts (nat_le d.copied n) (nat_le n (length d.replica.log)) e).1;
        }
    by false e = sound

-- a new document is sound, where what it begins with is a good log
pub new_sound : (name : List ℕ) (log : List Op) (seats : ℕ) → IsGood log → IsSound (new_document name log seats)
new_sound name log seats good = record {
  kept = record {
    good = good;
    in_order = tt;
    few = omega arith;
    unlogged = λ op c. absurd (Contains-nil c);
    foreign = λ op c. absurd (Contains-nil c);
    waits = λ op c. absurd (Contains-nil c);
  };
  each_has_a_seat = length-replicate (length log) 0;
  opened_alone = All-replicate (λ t. t ≤ 0) (length log) 0 (omega arith);
  few = omega arith;
  within = omega arith;
}

-- one more seat is opened
opened_sound : (d : Document) → IsSound d → d.opened + 1 ≤ d.seats → IsSound (record d { opened = d.opened + 1 })
opened_sound d sound more =
    record {
      kept = sound.kept;
      each_has_a_seat = sound.each_has_a_seat;
      opened_alone = λ k x less. let before = sound.opened_alone k x less in omega (arith, before);
      few = more;
      within = sound.within;
    }

pub opens_sound : (d : Document) → IsSound d → IsSound (opens d).1
opens_sound d sound = by (nat_lt d.opened d.seats) refl
  where
    by : (b : Bool) → nat_lt d.opened d.seats ≡ b
        → IsSound (if◌then◌else◌ {A = Result ℕ Refusal × Document} b (Ok (d.opened + 1), record d { opened = d.opened + 1 }) (Err Refusal.SeatsFull, d)).1
    by true e = opened_sound d sound (leb-true (d.opened + 1) d.seats (more e))
      where
        more : nat_lt d.opened d.seats ≡ true → nat_le (d.opened + 1) d.seats ≡ true
        more h = grind arith
    by false e = sound

-- the shares of all opened seats, and what stood there at the start, are the whole log
pub shares_add_up : (d : Document) → IsSound d → total_of d.opened d.seats_of + count_of 0 d.seats_of ≡ length d.replica.log
shares_add_up d sound = total_of-all d.opened d.seats_of sound.opened_alone ∙ sound.each_has_a_seat

pub share_is : (d : Document) (seat : ℕ) → IsSound d → length (logged_by seat d) ≡ count_of seat d.seats_of
share_is d seat sound = length-by seat d.replica.log d.seats_of sound.each_has_a_seat

-- the share of the seat rises by what the answer counts, and the others stay
pub shares_rise : (d e : Document) (seat : ℕ) (reply : Reply) → IsSound d → IsSound e → GivesTo d seat reply e
    → (count_of seat e.seats_of ≡ count_of seat d.seats_of + count_in reply) × ((t : ℕ) → seat ≢ t → count_of t e.seats_of ≡ count_of t d.seats_of)
shares_rise d e seat reply sound sound' given = (
  omega (arith, share_is d seat sound, share_is e seat sound', ap length given.mine, length-append (logged_by seat d) given.new, given.count),
  λ t other. sym (share_is e t sound') ∙ ap length (given.others t other) ∙ share_is d t sound,
)
