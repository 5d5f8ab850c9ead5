-- Who waits for an id is noted there.
use Rattle.std.proofs.Common.{◌≡◌, ◌≢◌, inl, inr, ℕ, List, map, filter, not, true, Some, Contains, sym, ap, subst, ◌∙◌, true≢false}
use Rattle.std.specs.Prelude.{insert}
use Rattle.slab.specs.Slab.{Slab, get}
use Rattle.doc_api.specs.Words.{Id, Op}
use Rattle.crdt_rules.specs.Same.{id_eq}
use Rattle.crdt_rules.proofs.SameLaws.{id_decides}
use Rattle.crdt_rules.proofs.Tests.{some_same}
use Rattle.list_laws.proofs.Members.{map-from, Contains-insert_cases}
use Rattle.list_laws.proofs.Filters.{filter-Contains}
use Rattle.hold_buffer.specs.Waiters.{waiters_of}
use Rattle.hold_buffer.specs.Order.{IsOrdered, AreNoted, without_id}
use Rattle.hold_buffer.specs.declared.entry.Entry.{Entry}
use Rattle.hold_buffer.specs.declared.waiters.Waiters.{Waiters}

-- what a filter without an id keeps is another one
pub kept_other : {X : Type 0} (name : X → Id) (id : Id) (xs : List X) {x : X} → Contains (filter (λ y. not (id_eq (name y) id)) xs) x → Contains xs x × (name x ≢ id)
kept_other name id xs {x} c =
    let r = filter-Contains (λ y. not (id_eq (name y) id)) xs c in (
      r.0,
      (λ same. true≢false (sym r.1 ∙ ap not (subst (λ (j : Id). id_eq (name x) j ≡ true) same (id_decides.itself (name x))))),
    )

-- two entries of one key are those of one id
pub one_key : {slots : Slab Op} {order : List Entry} → IsOrdered slots order → (t u : Entry) → Contains order t → Contains order u → t.key ≡ u.key → t.id ≡ u.id
one_key {slots} is t u c d same =
    let r = is.right t c in
    let s = is.right u d in
    sym r.2 ∙ ap (λ (o : Op). o.id) (some_same (sym r.1 ∙ ap (get slots) same ∙ s.1)) ∙ s.2

-- one more is held
pub noted-held : {slots : Slab Op} {order : List Entry} (old new : Waiters) → IsOrdered slots order → (at : ℕ) (t : Entry) → AreNoted order old
    → ((i : Id) (k : ℕ) (o : Op) → get slots k ≡ Some o → Contains (waiters_of old i) k → Contains (waiters_of new i) k)
    → ((i : Id) → Contains t.missing i → Contains (waiters_of new i) t.key) → AreNoted (insert order at t) new
noted-held {slots} {order} old new is at t noted kept here u c i lacked =
    elim (Contains-insert_cases order at t c) [
      | inl one ↦ subst (λ (v : Entry). Contains v.missing i → Contains (waiters_of new i) v.key) one (here i) lacked
      | inr old ↦ let r = is.right u old in kept i u.key r.0 r.1 (noted u old i lacked)
    ]

-- none is held, but some were noted
pub noted-kept : {slots : Slab Op} {order later : List Entry} (old new : Waiters) → IsOrdered slots order → AreNoted order old
    → ((i : Id) (k : ℕ) (o : Op) → get slots k ≡ Some o → Contains (waiters_of old i) k → Contains (waiters_of new i) k)
    → later ≡ order → AreNoted later new
noted-kept {slots} {order} {later} old new is noted kept same =
    subst (λ (ts : List Entry). AreNoted ts new) (sym same)
    (λ u c i lacked. let r = is.right u c in kept i u.key r.0 r.1 (noted u c i lacked))

-- an id is missed no more
pub noted-logged : (order later : List Entry) (waiters : Waiters) (id : Id) → AreNoted order waiters → later ≡ map (without_id id) order → AreNoted later waiters
noted-logged order later waiters id noted same =
    subst (λ (ts : List Entry). AreNoted ts waiters) (sym same)
    (λ u c.
    let r = map-from (without_id id) order c in
    subst (λ (v : Entry). (i : Id) → Contains v.missing i → Contains (waiters_of waiters i) v.key) r.2
    (λ i lacked. noted r.0 r.1 i (kept_other (λ (j : Id). j) id (r.0).missing lacked).0))

-- one is dropped
pub noted-removed : (order later : List Entry) (waiters : Waiters) (id : Id) → AreNoted (filter (λ t. not (id_eq t.id id)) order) waiters
    → later ≡ filter (λ t. not (id_eq t.id id)) order → AreNoted later waiters
noted-removed order later waiters id noted same = subst (λ (ts : List Entry). AreNoted ts waiters) (sym same) noted

-- the keys of the entry that goes are forgotten, and no others
pub noted-forgotten : (order : List Entry) (old new : Waiters) (id : Id) (t : Entry) → ((t u : Entry) → Contains order t → Contains order u → t.key ≡ u.key → t.id ≡ u.id)
    → AreNoted order old → Contains order t → t.id ≡ id
    → ((i : Id) (k : ℕ) → k ≢ t.key → Contains (waiters_of old i) k → Contains (waiters_of new i) k) → AreNoted (filter (λ u. not (id_eq u.id id)) order) new
noted-forgotten order old new id t apart noted among name kept u c i lacked =
    let s = kept_other (λ (v : Entry). v.id) id order c in
    kept i u.key (λ same. s.1 (apart u t s.0 among same ∙ name)) (noted u s.0 i lacked)
