-- What a run makes, one change after another.
use Rattle.std.proofs.Common.{◌≡◌, inl, inr, ℕ, suc, ◌+◌, ◌-◌, ◌<◌, ◌≤◌, List, [], ◌∷◌, ◌++◌, length, map, replicate, filter, find, not, Bool, true, false, Option, Some, None, Result, Ok, Err, IfOk, if◌then◌else◌, refl, sym, ap, ◌∙◌, subst, append_assoc, append-nil, arith, true≢false}
use Rattle.std.specs.Prelude.{⊤}
use Rattle.std.proofs.lemmas.List.{map-append, replicate_more, replicate-append-replicate}
use Rattle.json_scalar.specs.Refusal.{UnlessMemory}
use Rattle.doc_api.specs.Words.{Id, Op, Cursor, Val, Refusal, Mutation, Insert, Delete}
use Rattle.doc_api.specs.declared.ask.Command.TheVariants.{Change}
use Rattle.doc_api.specs.declared.place.Place.{Place}
use Rattle.doc_api.specs.declared.place.Step.{Step}
use Rattle.doc_api.specs.declared.reply.Reply.{Reply}
use Rattle.doc_api.specs.declared.reply.Reply.TheVariants.{Applied, Refused}
use Rattle.crdt_rules.specs.Same.{id_eq}
use Rattle.crdt_rules.specs.Dependencies.{is_ready}
use Rattle.crdt_rules.proofs.SameLaws.{id_decides}
use Rattle.crdt_rules.proofs.Tests.{some_same, some≢none}
use Rattle.doc_rules.specs.Replica.{Replica, Drains, find_id, own_op}
use Rattle.doc_rules.specs.Replica.Drains.{done, logs, drops}
use Rattle.doc_rules.specs.Events.{Expected, replied, held, logged, no, Settles, changed_rows, expected_at_place, Event}
use Rattle.doc_rules.proofs.Tables.{by_rows}
use Rattle.replica_core.specs.Outcomes.{reply_of_applied}
use Rattle.replica_core.specs.declared.outcome.Applied.{Applied as Outcome}
use Rattle.replica_c.specs.Runs.{Makes, none, more, EndsRun, reply_of_run, element_place, further, last_further}
use Rattle.replica_c.specs.declared.ask.Run.TheVariants.{Inserts, Deletes}

-- ---- what is released is held no longer

shorter : (i : Id) (ops : List Op) → length (filter (λ o. not (id_eq o.id i)) ops) ≤ length ops
shorter i [] = omega arith
shorter i (o ∷ ops) = by (id_eq o.id i) (shorter i ops)
  where
    by : (b : Bool) → length (filter (λ o. not (id_eq o.id i)) ops) ≤ length ops
        → length (if not b then o ∷ filter (λ o. not (id_eq o.id i)) ops else filter (λ o. not (id_eq o.id i)) ops) ≤ length (o ∷ ops)
    by true h = omega (arith, h)
    by false h = omega (arith, h)

fewer : (test : Op → Bool) (op : Op) (ops : List Op) → find test ops ≡ Some op → length (filter (λ o. not (id_eq o.id op.id)) ops) + 1 ≤ length ops
fewer test op [] h = absurd (some≢none (sym h))
fewer test op (o ∷ ops) h = by (test o) refl h (λ h. fewer test op ops h)
  where
    kept : (b : Bool) → id_eq o.id op.id ≡ b → b ≡ true
        → length (if not b then o ∷ filter (λ o. not (id_eq o.id op.id)) ops else filter (λ o. not (id_eq o.id op.id)) ops) + 1 ≤ length (o ∷ ops)
    kept true e h = omega (arith, shorter op.id ops)
    kept false e h = absurd (true≢false (sym h))

    behind : (b : Bool) → length (filter (λ o. not (id_eq o.id op.id)) ops) + 1 ≤ length ops
        → length (if not b then o ∷ filter (λ o. not (id_eq o.id op.id)) ops else filter (λ o. not (id_eq o.id op.id)) ops) + 1 ≤ length (o ∷ ops)
    behind true h = omega (arith, h)
    behind false h = omega (arith, h)

    by : (b : Bool) → test o ≡ b → (if b then Some o else find test ops) ≡ Some op
        → (find test ops ≡ Some op → length (filter (λ o. not (id_eq o.id op.id)) ops) + 1 ≤ length ops)
        → length (filter (λ o. not (id_eq o.id op.id)) (o ∷ ops)) + 1 ≤ length (o ∷ ops)
    by true e h ih =
        let same : id_eq o.id op.id ≡ true = subst (λ (x : Op). id_eq o.id x.id ≡ true) (some_same h) (id_decides.itself o.id) in
        kept (id_eq o.id op.id) refl same
    by false e h ih = behind (id_eq o.id op.id) (ih h)

drain_frees : {r s : Replica} {n d : ℕ} → Drains r n d s → n + d + length s.held ≤ length r.held
drain_frees (done {r} ended) = omega arith
drain_frees (logs {r} {s} {n} {d} {op} next fits rest) =
    let frees : n + d + length s.held ≤ length (filter (λ o. not (id_eq o.id op.id)) r.held) = drain_frees rest in
    omega (arith, frees, fewer (λ o. is_ready o r.log) op r.held next)
drain_frees (drops {r} {s} {n} {d} {op} next rest) =
    let frees : n + d + length s.held ≤ length (filter (λ o. not (id_eq o.id op.id)) r.held) = drain_frees rest in
    omega (arith, frees, fewer (λ o. is_ready o r.log) op r.held next)

-- ---- one change of one's own

module _ (r s : Replica) where
  abbrev Frees : ℕ → ℕ → Id → Expected → Type 0
  Frees count dropped id due = Settles r due (Applied count dropped id) s → count + dropped + length s.held ≤ length r.held + 1

  no_frees : (count dropped : ℕ) (id : Id) (cause : Refusal) → Frees count dropped id (no cause)
  no_frees count dropped id cause h = let clash : Applied count dropped id ≡ Refused cause = h.0 in cc

  logged_frees : (count dropped : ℕ) (id : Id) (op : Op) → Frees count dropped id (logged op)
  logged_frees count dropped id op h =
      let frees = drain_frees h.drains in
      let is : Applied count dropped id ≡ Applied (suc h.count) h.dropped op.id = h.reply_is in
      let same_count : count ≡ suc h.count = cc in
      let same_dropped : dropped ≡ h.dropped = cc in
      omega (arith, frees, same_count, same_dropped)

  placed_frees : (c : Result Cursor Refusal) (m : Mutation) (count dropped : ℕ) (id : Id) → Frees count dropped id (expected_at_place r c m)
  placed_frees (Err cause) m count dropped id = no_frees count dropped id cause
  placed_frees (Ok c) m count dropped id =
      let never : (cause : Refusal) → Frees count dropped id (no cause) = no_frees count dropped id in
      by_rows (Frees count dropped id) (changed_rows r c m) (logged (own_op r c m))
      ((λ is. never _), λ other. ((λ is. never _), λ other. ((λ is. never _), λ other. ((λ is. never _), λ other. logged_frees count dropped id (own_op r c m)))))

  event_frees : (place : Place) (m : Mutation) (count dropped : ℕ) (id : Id) → Event r (Change place m) (Applied count dropped id) s
      → count + dropped + length s.held ≤ length r.held + 1
  event_frees place m count dropped id (inl does) = placed_frees does.0 m count dropped id does.2
  event_frees place m count dropped id (inr lacks) = cc

  pub applied_frees : (place : Place) (m : Mutation) (result : Result Outcome Refusal) → Event r (Change place m) (reply_of_applied result) s
      → IfOk result (λ a. a.count + a.dropped + length s.held ≤ length r.held + 1)
  applied_frees place m (Ok a) h = event_frees place m a.count a.dropped a.id h
  applied_frees place m (Err cause) h = tt

  abbrev Stays : Refusal → Expected → Type 0
  Stays cause due = Settles r due (Refused cause) s → s ≡ r

  logged_stays : (cause : Refusal) (op : Op) → Stays cause (logged op)
  logged_stays cause op h = let clash : Refused cause ≡ Applied (suc h.count) h.dropped op.id = h.reply_is in cc

  placed_stays : (c : Result Cursor Refusal) (m : Mutation) (cause : Refusal) → Stays cause (expected_at_place r c m)
  placed_stays (Err why) m cause = λ h. h.1
  placed_stays (Ok c) m cause =
      by_rows (Stays cause) (changed_rows r c m) (logged (own_op r c m))
      ((λ is h. h.1), λ other. ((λ is h. h.1), λ other. ((λ is h. h.1), λ other. ((λ is h. h.1), λ other. logged_stays cause (own_op r c m)))))

  -- a refusal changes nothing
  pub refused_stays : (place : Place) (m : Mutation) (cause : Refusal) → Event r (Change place m) (Refused cause) s → s ≡ r
  refused_stays place m cause (inl does) = placed_stays does.0 m cause does.2
  refused_stays place m cause (inr lacks) = lacks.1

-- ---- insertions

pub record HasInserted (r : Replica) (start : Place) (vals rest : List Val) (at : Result Place Refusal) (ids : List Id) (n d : ℕ) (s : Replica)
    : Type 0 where
  pub done : List Val
  pub all : vals ≡ done ++ rest
  pub place : Place
  pub is_at : UnlessMemory at (Ok place)
  pub makes : Makes (Inserts start vals) r (map Insert done) ids n d place s

pub none_inserted : (r : Replica) (start : Place) (vals : List Val) (at : Result Place Refusal) (ids : List Id) (n d : ℕ) → at ≡ Ok start → ids ≡ [] → n ≡ 0 → d ≡ 0
    → HasInserted r start vals vals at ids n d r
none_inserted r start vals at ids n d is no_ids no_n no_d = record {
  done = [];
  all = refl;
  place = start;
  is_at = λ _. is;
  makes = rw (no_ids, no_n, no_d) none;
}

module _ {r mid : Replica} {start : Place} {vals rest : List Val} {val : Val} {at : Result Place Refusal} {ids : List Id} {n d : ℕ}
    (so_far : HasInserted r start vals (val ∷ rest) at ids n d mid) where
  pub one_inserted : (s : Replica) (count dropped : ℕ) (id : Id) (next : Result Place Refusal) → Event mid (Change so_far.place (Insert val)) (Applied count dropped id) s
      → UnlessMemory next (Ok (element_place (find_id s.log id)))
      → HasInserted r start vals rest next (ids ++ id ∷ []) (n + count) (d + dropped) s
  one_inserted s count dropped id next event is_next = record {
    done = so_far.done ++ val ∷ [];
    all = so_far.all ∙ sym (append_assoc so_far.done (val ∷ []) rest);
    place = element_place (find_id s.log id);
    is_at = is_next;
    makes = subst (λ made. Makes (Inserts start vals) r made (ids ++ id ∷ []) (n + count) (d + dropped) (element_place (find_id s.log id)) s)
        (sym (map-append Insert so_far.done (val ∷ []))) (more so_far.makes event);
  }

  pub insertion_stops : (s : Replica) (cause : Refusal) → Event mid (Change so_far.place (Insert val)) (Refused cause) s
      → EndsRun r (Inserts start vals) ids n d (Err cause) s
  insertion_stops s cause event =
      let same : s ≡ mid = refused_stays mid s so_far.place (Insert val) cause event in
      subst (λ x. EndsRun r (Inserts start vals) ids n d (Err cause) x) (sym same)
      (record {
        made = map Insert so_far.done;
        left = map Insert (val ∷ rest);
        all = ap (map Insert) so_far.all ∙ map-append Insert so_far.done (val ∷ rest);
        place = so_far.place;
        makes = so_far.makes;
        stops = (Insert val, map Insert rest, refl, subst (λ x. Event mid (Change so_far.place (Insert val)) (Refused cause) x) same event);
      })

pub all_inserted : {r s : Replica} {start : Place} {vals rest : List Val} {at : Result Place Refusal} {ids : List Id} {n d : ℕ}
    → HasInserted r start vals rest at ids n d s → rest ≡ [] → EndsRun r (Inserts start vals) ids n d (Ok tt) s
all_inserted {start = start} {vals = vals} so_far ended = record {
  made = map Insert so_far.done;
  left = [];
  all = ap (map Insert) (so_far.all ∙ ap (λ rest. so_far.done ++ rest) ended ∙ append-nil so_far.done) ∙ sym (append-nil (map Insert so_far.done));
  place = so_far.place;
  makes = so_far.makes;
  stops = refl;
}

-- ---- deletions

abbrev pub HasDeleted : Replica → Place → ℕ → ℕ → List Id → ℕ → ℕ → Replica → Type 0
HasDeleted r place count i ids n d s = Makes (Deletes place count) r (replicate i Delete) ids n d place s

pub none_deleted : (r : Replica) (place : Place) (count : ℕ) (ids : List Id) (n d : ℕ) → ids ≡ [] → n ≡ 0 → d ≡ 0 → HasDeleted r place count 0 ids n d r
none_deleted r place count ids n d no_ids no_n no_d = rw (no_ids, no_n, no_d) none

module _ {r mid : Replica} {place : Place} {count : ℕ} {ids : List Id} {n d : ℕ} (i : ℕ) (so_far : HasDeleted r place count i ids n d mid) where
  pub one_deleted : (s : Replica) (many dropped : ℕ) (id : Id) → Event mid (Change place Delete) (Applied many dropped id) s
      → HasDeleted r place count (i + 1) (ids ++ id ∷ []) (n + many) (d + dropped) s
  one_deleted s many dropped id event =
      subst (λ made. Makes (Deletes place count) r made (ids ++ id ∷ []) (n + many) (d + dropped) place s)
      (replicate_more i Delete) (more so_far event)

  pub deletion_stops : (s : Replica) (cause : Refusal) → i < count → Event mid (Change place Delete) (Refused cause) s
      → EndsRun r (Deletes place count) ids n d (Err cause) s
  deletion_stops s cause within event =
      let same : s ≡ mid = refused_stays mid s place Delete cause event in
      let all : i + (1 + (count - i - 1)) ≡ count = omega (arith, within) in
      subst (λ x. EndsRun r (Deletes place count) ids n d (Err cause) x) (sym same)
      (record {
        made = replicate i Delete;
        left = Delete ∷ replicate (count - i - 1) Delete;
        all =
            ap (λ k. replicate k Delete) (sym all) ∙ sym (replicate-append-replicate i (1 + (count - i - 1)) Delete)
            ∙ ap (λ later. replicate i Delete ++ later) (sym (replicate-append-replicate 1 (count - i - 1) Delete));
        place = place;
        makes = so_far;
        stops = (Delete, replicate (count - i - 1) Delete, refl, subst (λ x. Event mid (Change place Delete) (Refused cause) x) same event);
      })

  pub all_deleted : i ≡ count → EndsRun r (Deletes place count) ids n d (Ok tt) mid
  all_deleted ended = record {
    made = replicate i Delete;
    left = [];
    all = ap (λ k. replicate k Delete) (sym ended) ∙ sym (append-nil (replicate i Delete));
    place = place;
    makes = so_far;
    stops = refl;
  }

-- ---- the last of the steps

pub last_further-at : (n : ℕ) (front : List Step) (last : Step) → last_further n (front ++ last ∷ []) ≡ front ++ further n last ∷ []
last_further-at n [] last = refl
last_further-at n (step ∷ []) last = refl
last_further-at n (step ∷ next ∷ front) last = ap (λ steps. step ∷ steps) (last_further-at n (next ∷ front) last)

pub further_pushed : {V : Type 0} (items : V → List Step) (r : Result V Refusal) (n : ℕ) (front steps : List Step) (last : Step) → steps ≡ front ++ last ∷ []
    → IfOk r (λ v. items v ≡ front ++ further n last ∷ []) → IfOk r (λ v. items v ≡ last_further n steps)
further_pushed items (Ok v) n front steps last is h = h ∙ sym (ap (last_further n) is ∙ last_further-at n front last)
further_pushed items (Err e) n front steps last is h = tt

pub further_none : (n : ℕ) (old new steps : List Step) → old ≡ steps → old ≡ new ++ [] → length old ≡ 0 → new ≡ last_further n steps
further_none n [] new steps is rest empty = sym (append-nil new) ∙ sym rest ∙ ap (last_further n) is
further_none n (step ∷ old) new steps is rest empty = absurd (omega (arith, empty))

-- ---- the reply where nothing was made

pub reply_to_none : (ids : List Id) (n d : ℕ) (why : Result ⊤ Refusal) (reply : Reply) → length ids < 1 → reply ≡ reply_of_run [] n d why
    → reply ≡ reply_of_run ids n d why
reply_to_none [] n d why reply few h = h
reply_to_none (id ∷ ids) n d why reply few h = absurd (omega (arith, few))
