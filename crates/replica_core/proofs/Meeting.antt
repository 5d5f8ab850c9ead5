-- How the expected outcome comes about.
use Rattle.std.proofs.Common.{◌≡◌, ◌<◌, ◌≤◌, inl, inr, ℕ, suc, le-leb, leb-true, arith, List, [], ◌∷◌, length, nat_le, Bool, true, false, true≢false, not, ◌&&◌, is_ok, bytes_eq, Option, Some, None, Result, Ok, Err, if◌then◌else◌, refl, sym, ap, subst, ◌∙◌}
use Rattle.std.specs.Prelude.{⊤, IfOk, IfErr, OnErr, is_some}
use Rattle.std.proofs.lemmas.Bool.{false_from_ne_true, not-true, and_parts}
use Rattle.doc_api.specs.Words.{Refusal, NoMemory, Op}
use Rattle.std.specs.Option.{option_map}
use Rattle.json_scalar.specs.declared.refusal.Refusal.TheVariants.{IdConflict, OwnName, HeldFull}
use Rattle.op_core.specs.Equality.{operation_eq}
use Rattle.op_core.specs.Limits.{most_held}
use Rattle.doc_api.specs.declared.reply.Reply.{Reply}
use Rattle.doc_api.specs.declared.reply.Reply.TheVariants as reply
use Rattle.crdt_rules.specs.Dependencies.{is_logged, is_ready, missing}
use Rattle.op_log.proofs.Ids.{is_logged-find_id}
use Rattle.doc_rules.specs.Cause.{cause_of}
use Rattle.doc_rules.specs.Events.{Expected, replied, held, logged, Settles, no, first_row, is_same, expected_by_cause, expected_of_delivery}
use Rattle.doc_rules.specs.Replica.{Replica, Drains, append, find_id}
use Rattle.replica_core.specs.declared.outcome.Applied.{Applied}
use Rattle.replica_core.specs.Memory.{NeedsMemory, is_to_log}
use Rattle.replica_core.specs.Outcomes.{Meets, reply_of_applied}
use Rattle.replica_core.specs.Whole.{Contents, replica_with, with_logged}

-- an operation was logged, and then what it released
pub meets_logged : (r : Replica) (op : Op) (a : Applied) (s : Replica) → (n : ℕ) × (a.count ≡ suc n) × (a.id ≡ op.id) × Drains (append op r) n a.dropped s
    → Settles r (logged op) (reply.Applied a.count a.dropped a.id) s
meets_logged r op a s h = record {
  count = h.0;
  dropped = a.dropped;
  reply_is = λ i. reply.Applied (h.1 i) a.dropped (h.2 i);
  drains = h.3;
}

-- out of memory
pub meets_lacking : (r : Replica) (due : Expected) (e : Refusal) (s : Replica) → NeedsMemory due → e ≡ NoMemory → s ≡ r → Meets r due (reply.Refused e) s
meets_lacking r due e s grows memory same = inr (grows, (ap reply.Refused memory, same))

-- a ready operation is logged, or refused
pub meets_ready : (r : Replica) (op : Op) (cause : Result ⊤ Refusal) (answer : Reply) (s : Replica) → Ok tt ≡ cause → Meets r (logged op) answer s
    → Meets r (expected_by_cause cause op) answer s
meets_ready r op cause answer s is h = subst (λ (c : Result ⊤ Refusal). Meets r (expected_by_cause c op) answer s) is h

pub meets_refused : (r : Replica) (op : Op) (cause : Result ⊤ Refusal) (e : Refusal) (s : Replica) → Err e ≡ cause → s ≡ r
    → Meets r (expected_by_cause cause op) (reply.Refused e) s
meets_refused r op cause e s is same = subst (λ (c : Result ⊤ Refusal). Meets r (expected_by_cause c op) (reply.Refused e) s) is (inl (refl, same))

-- ---- the table of delivered operations, a few rows at a time

-- the rows that look for its id, with what stands there
abbrev by_id : Op → Option Op → Expected → Expected → Expected
by_id op found known due = first_row ((is_same op found, known) ∷ (is_some found, no IdConflict) ∷ []) due

-- the rows of a new id
abbrev by_tests : Bool → Bool → Bool → Op → Expected → Expected
by_tests own ready full op due = first_row ((own, no OwnName) ∷ (not ready && full, no HeldFull) ∷ (not ready, held op) ∷ []) due

pub none_found : (op : Op) (o : Option Op) → None ≡ option_map (λ x. operation_eq x op) o → o ≡ None
none_found op None h = refl
none_found op (Some x) h = absurd (cc)

id_taken : (op : Op) (o : Option Op) (b : Bool) (known due : Expected) → Some b ≡ option_map (λ x. operation_eq x op) o
    → (if b then known else no IdConflict) ≡ by_id op o known due
id_taken op None b known due h = absurd (cc)
id_taken op (Some x) b known due h = let same : b ≡ operation_eq x op = cc in ap (λ c. if c then known else no IdConflict) same

id_free : (op : Op) (o : Option Op) (known due : Expected) → o ≡ None → due ≡ by_id op o known due
id_free op None known due h = refl
id_free op (Some x) known due h = absurd (cc)

abbrev new_due : Replica → Op → Expected
new_due r op = by_tests (bytes_eq op.id.replica r.name) (is_ready op r.log) (nat_le most_held (length r.held)) op (expected_by_cause (cause_of op r.log) op)

abbrev unlogged_due : Replica → Op → Expected
unlogged_due r op = by_id op (find_id r.held op.id) (replied (reply.Held (missing op r.log))) (new_due r op)

-- its id is logged
pub delivered_logged : (r : Replica) (op : Op) (b : Bool) → Some b ≡ option_map (λ x. operation_eq x op) (find_id r.log op.id)
    → (if b then replied reply.Known else no IdConflict) ≡ expected_of_delivery r op
delivered_logged r op b h = id_taken op (find_id r.log op.id) b (replied reply.Known) (unlogged_due r op) h

-- its id is held
pub delivered_held : (r : Replica) (op : Op) (b : Bool) → find_id r.log op.id ≡ None → Some b ≡ option_map (λ x. operation_eq x op) (find_id r.held op.id)
    → (if b then replied (reply.Held (missing op r.log)) else no IdConflict) ≡ expected_of_delivery r op
delivered_held r op b new h =
    id_taken op (find_id r.held op.id) b (replied (reply.Held (missing op r.log))) (new_due r op) h
    ∙ id_free op (find_id r.log op.id) (replied reply.Known) (unlogged_due r op) new

-- its id is new
module _ (r : Replica) (op : Op) (new : find_id r.log op.id ≡ None) (unheld : find_id r.held op.id ≡ None) where
  delivered_new : new_due r op ≡ expected_of_delivery r op
  delivered_new =
      id_free op (find_id r.held op.id) (replied (reply.Held (missing op r.log))) (new_due r op) unheld
      ∙ id_free op (find_id r.log op.id) (replied reply.Known) (unlogged_due r op) new

  pub delivered_own : true ≡ bytes_eq op.id.replica r.name → no OwnName ≡ expected_of_delivery r op
  delivered_own own = by (bytes_eq op.id.replica r.name) own ∙ delivered_new
    where
      by : (b : Bool) → true ≡ b → no OwnName ≡ by_tests b (is_ready op r.log) (nat_le most_held (length r.held)) op (expected_by_cause (cause_of op r.log) op)
      by true h = refl
      by false h = absurd (true≢false h)

  pub delivered_ready : false ≡ bytes_eq op.id.replica r.name → true ≡ is_ready op r.log → expected_by_cause (cause_of op r.log) op ≡ expected_of_delivery r op
  delivered_ready other ready = by (bytes_eq op.id.replica r.name) (is_ready op r.log) other ready ∙ delivered_new
    where
      by : (own ready : Bool) → false ≡ own → true ≡ ready
          → expected_by_cause (cause_of op r.log) op ≡ by_tests own ready (nat_le most_held (length r.held)) op (expected_by_cause (cause_of op r.log) op)
      by true ready h e = absurd (true≢false (sym h))
      by false true h e = refl
      by false false h e = absurd (true≢false e)

  pub delivered_waiting : false ≡ bytes_eq op.id.replica r.name → false ≡ is_ready op r.log
      → (if nat_le most_held (length r.held) then no HeldFull else held op) ≡ expected_of_delivery r op
  delivered_waiting other waits = by (bytes_eq op.id.replica r.name) (is_ready op r.log) other waits ∙ delivered_new
    where
      by : (own ready : Bool) → false ≡ own → false ≡ ready
          → (if nat_le most_held (length r.held) then no HeldFull else held op) ≡ by_tests own ready (nat_le most_held (length r.held)) op (expected_by_cause (cause_of op r.log) op)
      by true ready h e = absurd (true≢false (sym h))
      by false true h e = absurd (true≢false (sym e))
      by false false h e = refl

-- ---- what is logged

abbrev by_all : Bool → Bool → Bool → Bool → Bool → Bool → Bool → Reply → Reply → Expected → Op → Expected
by_all equal has equal_held has_held own ready full one other due op =
    first_row
    ((equal, replied one) ∷ (has, no IdConflict) ∷ (equal_held, replied other) ∷ (has_held, no IdConflict) ∷ (own, no OwnName) ∷ (not ready && full, no HeldFull) ∷ (not ready, held op) ∷ [])
    due

-- it has a new id, is another's, is ready, and has no cause against it
logged_only : (equal has equal_held has_held own ready full : Bool) (one other : Reply) (due : Expected) (op : Op)
    → by_all equal has equal_held has_held own ready full one other due op ≡ logged op
    → (has ≡ false) × (has_held ≡ false) × (own ≡ false) × (ready ≡ true) × (due ≡ logged op)
logged_only true has equal_held has_held own ready full one other due op e = absurd (cc)
logged_only false true equal_held has_held own ready full one other due op e = absurd (cc)
logged_only false false true has_held own ready full one other due op e = absurd (cc)
logged_only false false false true own ready full one other due op e = absurd (cc)
logged_only false false false false true ready full one other due op e = absurd (cc)
logged_only false false false false false false true one other due op e = absurd (cc)
logged_only false false false false false false false one other due op e = absurd (cc)
logged_only false false false false false true full one other due op e = (refl, refl, refl, refl, e)

unlike_none : (op : Op) (o : Option Op) → is_some o ≡ false → is_same op o ≡ false
unlike_none op None h = refl
unlike_none op (Some x) h = absurd (true≢false h)

without_cause : (cause : Result ⊤ Refusal) (op : Op) → is_ok cause ≡ true → expected_by_cause cause op ≡ logged op
without_cause (Ok x) op h = refl
without_cause (Err e) op h = absurd (true≢false (sym h))

no_cause : (cause : Result ⊤ Refusal) (op : Op) → expected_by_cause cause op ≡ logged op → is_ok cause ≡ true
no_cause (Ok x) op h = refl
no_cause (Err e) op h = absurd (cc)

pub to_log : (r : Replica) (op : Op) → is_to_log r op ≡ true → expected_of_delivery r op ≡ logged op
to_log r op h =
    let ready = and_parts _ (is_ok (cause_of op r.log)) h in
    let others = and_parts _ (is_ready op r.log) ready.0 in
    let unheld = and_parts _ (not (bytes_eq op.id.replica r.name)) others.0 in
    let new = and_parts (not (is_logged r.log op.id)) (not (is_logged r.held op.id)) unheld.0 in
    let none : is_some (find_id r.log op.id) ≡ false = sym (is_logged-find_id r.log op.id) ∙ not-true _ new.0 in
    let none_held : is_some (find_id r.held op.id) ≡ false = sym (is_logged-find_id r.held op.id) ∙ not-true _ new.1 in
    let other = not-true _ unheld.1 in
    let equal = unlike_none op (find_id r.log op.id) none in
    let equal_held = unlike_none op (find_id r.held op.id) none_held in
    (λ i. by_all (equal i) (none i) (equal_held i) (none_held i) (other i) (others.1 i) (nat_le most_held (length r.held)) reply.Known (reply.Held (missing op r.log))
    (expected_by_cause (cause_of op r.log) op) op)
    ∙ without_cause (cause_of op r.log) op ready.1

pub from_log : (r : Replica) (op : Op) → expected_of_delivery r op ≡ logged op → is_to_log r op ≡ true
from_log r op e =
    let found = logged_only _ (is_some (find_id r.log op.id)) _ (is_some (find_id r.held op.id)) _ _ _ _ _ (expected_by_cause (cause_of op r.log) op) op e in
    let new = is_logged-find_id r.log op.id ∙ found.0 in
    let unheld = is_logged-find_id r.held op.id ∙ found.1 in
    let ok = no_cause (cause_of op r.log) op found.4 in
    λ i. not (new i) && not (unheld i) && not (found.2 i) && found.3 i && ok i

-- the expected outcome, under another name
pub meets_as : (r : Replica) (due other : Expected) (answer : Reply) (s : Replica) → due ≡ other → Meets r due answer s → Meets r other answer s
meets_as r due other answer s is h = subst (λ d. Meets r d answer s) is h

-- an operation of one's own was logged, or memory ran out
pub meets_outcome : (name : List ℕ) (b c : Contents) (op : Op) (answer : Result Applied Refusal)
    → IfOk answer (λ a. (n : ℕ) × (a.count ≡ suc n) × (a.id ≡ op.id) × Drains (replica_with name (with_logged op b)) n a.dropped (replica_with name c))
    → IfErr answer (λ e. e ≡ NoMemory) → OnErr answer (c ≡ b) → Meets (replica_with name b) (logged op) (reply_of_applied answer) (replica_with name c)
meets_outcome name b c op (Ok a) ok err same = inl (meets_logged (replica_with name b) op a (replica_with name c) ok)
meets_outcome name b c op (Err e) ok err same =
    meets_lacking (replica_with name b) (logged op) e (replica_with name c) tt err (ap (replica_with name) same)

-- a waiting operation
pub waiting_full : (op : Op) (n : ℕ) → 256 ≤ n → no HeldFull ≡ (if nat_le most_held n then no HeldFull else held op)
waiting_full op n h = ap (λ b. if b then no HeldFull else held op) (sym (le-leb 256 n h))

pub waiting_held : (op : Op) (n : ℕ) → n < 256 → held op ≡ (if nat_le most_held n then no HeldFull else held op)
waiting_held op n h =
    ap (λ b. if b then no HeldFull else held op) (sym (false_from_ne_true (nat_le 256 n) (λ e. let many : 256 ≤ n = leb-true 256 n e in omega arith)))
