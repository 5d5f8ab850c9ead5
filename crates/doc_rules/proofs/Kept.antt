-- Each event keeps what a replica keeps.
use Rattle.std.proofs.Common.{◌≡◌, ◌≢◌, inl, inr, ℕ, ◌<◌, nat_le, List, length, Bool, true, false, true≢false, ◌&&◌, not, bytes_eq, Option, Some, None, Result, Ok, Err, Contains, refl, sym, ap, subst, arith}
use Rattle.std.specs.Prelude.{⊤, is_some}
use Rattle.std.proofs.lemmas.Bool.{both_ways, not-true}
use lib.Pointwise.{bytes_decides}
use Rattle.doc_api.specs.Words.{Id, Refusal, Op, Cursor, Mutation}
use Rattle.lamport_id.specs.Name.{is_name}
use Rattle.op_core.specs.Shape.{is_mutation, is_shaped}
use Rattle.crdt_rules.specs.Same.{id_eq}
use Rattle.crdt_rules.specs.Dependencies.{is_logged, is_ready}
use Rattle.crdt_rules.specs.Fits.{Fits}
use Rattle.crdt_rules.proofs.SameLaws.{id_decides, eq_from}
use Rattle.crdt_rules.proofs.Tests.{any_none}
use Rattle.doc_rules.specs.Cause.{cause_of}
use Rattle.doc_rules.specs.Events.{Expected, replied, held, logged, Settles, expected_by_cause, has_id_of, changed_rows, expected_at_place, delivered_rows, expected_of_delivery, Forgets, Does, Event, IsWellMade}
use Rattle.doc_rules.specs.Replica.{Replica, replica_facts, find_id, hold, without_held, own_op, IsValidReplica}
use Rattle.doc_rules.specs.Resolve.{Resolves}
use Rattle.doc_api.specs.declared.place.Place.{Place}
use Rattle.doc_api.specs.declared.ask.Command.{Command}
use Rattle.doc_api.specs.declared.ask.Command.TheVariants.{Change, Deliver, Forget}
use Rattle.doc_api.specs.declared.reply.Reply.{Reply}
use Rattle.doc_rules.proofs.Causes.{fits_from}
use Rattle.list_laws.proofs.Filters.{filter-Contains}
use Rattle.doc_rules.proofs.Held.{find_none, put_among_from, length-put_among, rising-put_among}
use Rattle.doc_rules.proofs.OwnFits.{unopposed_fits}
use Rattle.doc_rules.proofs.Tables.{by_rows}
use Rattle.doc_rules.proofs.Drained.{tidy_from, kept_from, append_tidy, without_held_tidy, drain_keeps}

-- an operation that may be held
pub record MayHold (r : Replica) (op : Op) : Type 0 where
  pub unlogged : is_logged r.log op.id ≡ false
  pub unheld : (o : Op) → Contains r.held o → o.id ≢ op.id
  pub foreign : op.id.replica ≢ r.name
  pub waits : is_ready op r.log ≡ false
  pub room : length r.held < 256

pub record MayLog (r : Replica) (op : Op) : Type 0 where
  pub fits : Fits op r.log
  pub unheld : (o : Op) → Contains r.held o → op.id ≢ o.id

abbrev IsSafe : Replica → Expected → Type 0
IsSafe r (replied reply) = Unit {0}
IsSafe r (held op) = MayHold r op
IsSafe r (logged op) = MayLog r op

hold_keeps : {r : Replica} (op : Op) → IsValidReplica r → MayHold r op → IsValidReplica (hold op r)
hold_keeps {r} op k h =
    kept_from
    (record {
      good = k.good;
      in_order = rising-put_among op r.held h.unheld k.in_order;
      few = let room = h.room in omega (arith, length-put_among op r.held, room);
      unlogged = λ o c. elim (put_among_from op r.held c) [ inl is ↦ subst (λ z. is_logged r.log z.id ≡ false) is h.unlogged | inr old ↦ k.unlogged o old ];
      foreign = λ o c. elim (put_among_from op r.held c) [ inl is ↦ subst (λ z. z.id.replica ≢ r.name) is h.foreign | inr old ↦ k.foreign o old ];
    })
    (λ o c. elim (put_among_from op r.held c) [ inl is ↦ subst (λ z. is_ready z r.log ≡ false) is h.waits | inr old ↦ k.waits o old ])

settles_keeps : {r s : Replica} (reply : Reply) (due : Expected) → IsValidReplica r → IsSafe r due → Settles r due reply s → IsValidReplica s
settles_keeps reply (replied answer) k safe h = subst IsValidReplica (sym h.1) k
settles_keeps reply (held op) k safe h = subst IsValidReplica (sym h.1) (hold_keeps op k safe)
settles_keeps reply (logged op) k safe h = drain_keeps h.drains (append_tidy op (tidy_from k) safe.fits safe.unheld)

-- ---- delivered operations

by_cause_safe : (r : Replica) (op : Op) (cause : Result ⊤ Refusal) → cause_of op r.log ≡ cause → is_shaped op ≡ true
    → ((o : Op) → Contains r.held o → op.id ≢ o.id) → IsSafe r (expected_by_cause cause op)
by_cause_safe r op (Ok tt) e shaped unheld = record { fits = fits_from op r.log shaped e; unheld = unheld }
by_cause_safe r op (Err cause) e shaped unheld = tt

-- no operation of its id is among them
none_found : (ops : List Op) (op : Op) → has_id_of ops op ≡ false → (o : Op) → Contains ops o → id_eq o.id op.id ≡ false
none_found ops op h = find_none (λ o. id_eq o.id op.id) ops (by (find_id ops op.id) h)
  where
    by : (found : Option Op) → is_some found ≡ false → found ≡ None
    by None h = refl
    by (Some o) h = absurd (true≢false h)

none_stands : (ops : List Op) (op : Op) → has_id_of ops op ≡ false → (o : Op) → Contains ops o → o.id ≢ op.id
none_stands ops op h o c same = both_ways (id_eq o.id op.id) (none_found ops op h o c) (eq_from id_decides o.id op.id same)

has_room : (ready : Bool) (n : ℕ) → not ready ≡ true → (not ready && nat_le 256 n) ≡ false → n < 256
has_room true n waits h = absurd (true≢false (sym waits))
has_room false n waits h = few n h
  where
    few : (n : ℕ) → nat_le 256 n ≡ false → n < 256
    few n e = grind arith

may_hold : (r : Replica) (op : Op) → has_id_of r.log op ≡ false → has_id_of r.held op ≡ false → bytes_eq op.id.replica r.name ≡ false
    → not (is_ready op r.log) ≡ true → (not (is_ready op r.log) && nat_le 256 (length r.held)) ≡ false → MayHold r op
may_hold r op unlogged unheld foreign waits room = record {
  unlogged = any_none (λ o. id_eq o.id op.id) r.log (none_found r.log op unlogged);
  unheld = none_stands r.held op unheld;
  foreign = λ same. both_ways (bytes_eq op.id.replica r.name) foreign ((bytes_decides op.id.replica r.name).1 same);
  waits = not-true (is_ready op r.log) waits;
  room = has_room (is_ready op r.log) (length r.held) waits room;
}

delivered_safe : (r : Replica) (op : Op) → is_shaped op ≡ true → IsSafe r (expected_of_delivery r op)
delivered_safe r op shaped =
    by_rows (IsSafe r) (delivered_rows r op) (expected_by_cause (cause_of op r.log) op) (
      (λ is. tt),
      λ other. (
        (λ is. tt),
        λ unlogged. (
          (λ is. tt),
          λ other. (
            (λ is. tt),
            λ unheld. (
              (λ is. tt),
              λ foreign. (
                (λ is. tt),
                λ room. (
                  (λ waits. may_hold r op unlogged unheld foreign waits room),
                  λ ready.
                      by_cause_safe r op (cause_of op r.log) refl shaped (λ o c same. none_stands r.held op unheld o c (sym same)),
                ),
              ),
            ),
          ),
        ),
      ),
    )

forgets_keeps : (r s : Replica) (i : Id) (found : Option Op) (reply : Reply) → IsValidReplica r → Forgets r i found reply s → IsValidReplica s
forgets_keeps r s i None reply k h = subst IsValidReplica (sym h.1) k
forgets_keeps r s i (Some o) reply k h =
    subst IsValidReplica (sym h.1) (kept_from (without_held_tidy i (tidy_from k)) (λ o c. k.waits o (held_before o c)))
  where
    held_before : (o : Op) → Contains (without_held i r).held o → Contains r.held o
    held_before o c = (filter-Contains (λ o. not (id_eq o.id i)) r.held c).0

-- ---- changes of one's own

placed_safe : (r : Replica) (place : Place) (m : Mutation) (c : Result Cursor Refusal) → is_name r.name ≡ true → is_mutation m ≡ true → IsValidReplica r
    → Resolves (replica_facts r) place.start place.steps c → IsSafe r (expected_at_place r c m)
placed_safe r place m (Err cause) named value k resolves = tt
placed_safe r place m (Ok c) named value k resolves =
    by_rows (IsSafe r) (changed_rows r c m) (logged (own_op r c m)) (
      (λ is. tt),
      λ listed. (
        (λ is. tt),
        λ below. (
          (λ is. tt),
          λ operations. (
            (λ is. tt),
            λ replicas.
                record {
                  fits = unopposed_fits r place.start place.steps c m named value k.good resolves (record { listed = listed; below = below; operations = operations; replicas = replicas });
                  unheld = λ o held same. k.foreign o held (sym (ap (λ (i : Id). i.replica) same));
                },
          ),
        ),
      ),
    )

-- ---- commands

does_keeps : (r s : Replica) (command : Command) (reply : Reply) → is_name r.name ≡ true → IsWellMade command → IsValidReplica r → Does r command reply s → IsValidReplica s
does_keeps r s (Change place m) reply named value k h =
    settles_keeps reply (expected_at_place r h.0 m) k (placed_safe r place m h.0 named value k h.1) h.2
does_keeps r s (Deliver op) reply named shaped k h = settles_keeps reply (expected_of_delivery r op) k (delivered_safe r op shaped) h
does_keeps r s (Forget i) reply named made k h = forgets_keeps r s i (find_id r.held i) reply k h

pub event_keeps : (r s : Replica) (command : Command) (reply : Reply) → is_name r.name ≡ true → IsWellMade command → IsValidReplica r → Event r command reply s → IsValidReplica s
event_keeps r s command reply named made k (inl does) = does_keeps r s command reply named made k does
event_keeps r s command reply named made k (inr lacks) = subst IsValidReplica (sym lacks.1) k
