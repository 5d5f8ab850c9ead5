-- What a replica is after it delivered what it asked for, page by page.
use Rattle.std.proofs.Common.{◌≡◌, ◌≢◌, ◌↔◌, ◌<◌, ◌≤◌, inl, inr, ℕ, zero, suc, List, [], ◌∷◌, ◌++◌, length, map, take, drop, nat_le, Bool, true, false, not, ◌&&◌, find, leb-true, cond, bytes_eq, filter, Option, Some, None, Contains, refl, sym, ap, subst, ◌∙◌, arith, append_assoc, append-nil}
use Rattle.std.specs.Prelude.{is_some}
use Rattle.std.proofs.Math.Seq.{take-append_seam, take-length}
use Rattle.std.proofs.lemmas.Bool.{both_ways, false_from_ne_true, and_parts, not-true}
use Rattle.std.proofs.lemmas.List.{take-append-drop, map-append, length-map}
use Rattle.std.proofs.lemmas.List.Elements.{Contains-append_left, Contains-append_right, filter-append}
use lib.Pointwise.{bytes_decides}
use Rattle.doc_api.specs.Words.{NoMemory, Op}
use Rattle.version_vector.specs.Front.{id_of, covers}
use Rattle.lamport_id.specs.declared.id.Id.{Id}
use Rattle.doc_api.specs.declared.ask.Command.TheVariants.{Deliver}
use Rattle.doc_api.specs.declared.reply.Reply.{Reply}
use Rattle.doc_api.specs.declared.reply.Reply.TheVariants.{Applied, Refused}
use Rattle.list_laws.proofs.Filters.{filter-Contains}
use Rattle.list_laws.proofs.Members.{Contains-nil, Contains-here, Contains-there}
use Rattle.list_laws.specs.Walk.{SameMembers}
use Rattle.crdt_rules.specs.Dependencies.{is_logged, is_ready}
use Rattle.crdt_rules.specs.Facts.{facts}
use Rattle.crdt_rules.specs.Fits.{Fits, HasRoom}
use Rattle.crdt_rules.specs.Log.{IsGoodAfter, replay}
use Rattle.crdt_rules.specs.Pull.{front_of, pulled}
use Rattle.crdt_rules.specs.Same.{id_eq}
use Rattle.crdt_rules.proofs.Chain.{fits_new, chain_covers, covered_less}
use Rattle.crdt_rules.proofs.FrontOf.{covers-front_of, front_of-covers, reaches}
use Rattle.crdt_rules.proofs.Logs.{good_split}
use Rattle.crdt_rules.proofs.Pulling.{pulled_good, pulled_holds, pulled_only, pulls_agree, turned}
use Rattle.crdt_rules.proofs.Readings.{known_from, logged_at}
use Rattle.crdt_rules.proofs.SameLaws.{id_decides}
use Rattle.crdt_rules.proofs.Tests.{any_at, any_from, any_none, all_from, not-false, some≢none, Contains-split}
use Rattle.doc_rules.specs.Answers.{since}
use Rattle.doc_rules.specs.Cause.{cause_of}
use Rattle.doc_rules.specs.Events.{logged, has_equal, has_id_of, is_same, delivered_rows, expected_by_cause, expected_of_delivery, Settles, Does}
use Rattle.doc_rules.specs.Replica.{Replica, replica_facts, find_id, append, Drains}
use Rattle.doc_rules.specs.Replica.Drains.{done, logs, drops}
use Rattle.doc_rules.proofs.Causes.{cause_none}
use Rattle.doc_rules.proofs.Tables.{by_rows}
use Rattle.converge_laws.specs.Replayed.{MayPull}
use Rattle.converge_laws.proofs.Pulls.{may_pull_back}
use Rattle.converge_laws.specs.Fetch.{page, applied, Delivers, Fetches, FetchesAll, MayFetch}
use Rattle.converge_laws.specs.Fetch.Delivers.{ends, again, next}
use Rattle.converge_laws.specs.Fetch.Fetches.{stops, asks}

-- ---- one delivery

-- a replica whose log goes on by these
abbrev pub with_more : List Op → Replica → Replica
with_more ops r = record r { log = r.log ++ ops }

-- what fits has all that it depends on
fits_ready : (op : Op) (log : List Op) → Fits op log → is_ready op log ≡ true
fits_ready op log fits =
    all_from (λ e. is_logged log (id_of e)) op.front
    (λ e c. let r = known_from op.front log fits.front e c in logged_at log r.0 (id_of e) r.1 r.2)

-- no operation of a list has this id
find_id-none : (ops : List Op) (i : Id) → ((o : Op) → Contains ops o → o.id ≢ i) → ◌≡◌ {A = Option Op} (find_id ops i) None
find_id-none [] i new = refl
find_id-none (o ∷ ops) i new =
    let other : id_eq o.id i ≡ false = false_from_ne_true (id_eq o.id i) (λ e. new o (Contains-here ops refl) (id_decides.same o.id i e)) in
    ap (λ b. cond b (Some o) (find_id ops i)) other ∙ find_id-none ops i (λ x c. new x (Contains-there o ops c))

-- where nothing is held nothing is released or dropped
record EndsAtOnce (r : Replica) (n d : ℕ) (s : Replica) : Type 0 where
  logged : n ≡ 0
  dropped : d ≡ 0
  same : s ≡ r

none_released : {r s : Replica} {n d : ℕ} → Drains r n d s → r.held ≡ [] → EndsAtOnce r n d s
none_released (done none) empty = record { logged = refl; dropped = refl; same = refl }
none_released (logs {r} first fits rest) empty = absurd (some≢none (sym first ∙ ap (find (λ o. is_ready o r.log)) empty))
none_released (drops {r} first rest) empty = absurd (some≢none (sym first ∙ ap (find (λ o. is_ready o r.log)) empty))

module _ (r : Replica) (op : Op) (empty : r.held ≡ []) (fits : Fits op r.log) (foreign : op.id.replica ≢ r.name) where
  not_logged : ◌≡◌ {A = Option Op} (find_id r.log op.id) None
  not_logged = find_id-none r.log op.id (λ o c. fits_new fits o c)

  not_held : ◌≡◌ {A = Option Op} (find_id r.held op.id) None
  not_held = ap (λ ops. find_id ops op.id) empty

  due_logged : expected_of_delivery r op ≡ logged op
  due_logged =
      by_rows (λ due. due ≡ logged op) (delivered_rows r op) (expected_by_cause (cause_of op r.log) op) (
        (λ is. absurd (both_ways (has_equal r.log op) (ap (is_same op) not_logged) is)),
        λ no. (
          (λ is. absurd (both_ways (has_id_of r.log op) (ap is_some not_logged) is)),
          λ no. (
            (λ is. absurd (both_ways (has_equal r.held op) (ap (is_same op) not_held) is)),
            λ no. (
              (λ is. absurd (both_ways (has_id_of r.held op) (ap is_some not_held) is)),
              λ no. (
                (λ is. absurd (foreign ((bytes_decides op.id.replica r.name).0 is))),
                λ no. (
                  (λ is. absurd (both_ways (not (is_ready op r.log) && nat_le 256 (length r.held)) (ap (λ b. not b && nat_le 256 (length r.held)) ready) is)),
                  λ no. (
                    (λ is. absurd (both_ways (not (is_ready op r.log)) (ap not ready) is)),
                    λ no. ap (λ cause. expected_by_cause cause op) (cause_none op r.log fits),
                  ),
                ),
              ),
            ),
          ),
        ),
      )
    where
      ready : is_ready op r.log ≡ true
      ready = fits_ready op r.log fits

  -- it is logged alone
  logged_alone : (reply : Reply) (s : Replica) → Does r (Deliver op) reply s → (reply ≡ applied op) × (s ≡ append op r)
  logged_alone reply s does =
      let logs = subst (λ due. Settles r due reply s) due_logged does in
      let end = none_released logs.drains empty in
      (logs.reply_is ∙ (λ i. Applied (suc (end.logged i)) (end.dropped i) op.id), end.same)

  -- and may be
  may_be_logged : Does r (Deliver op) (applied op) (append op r)
  may_be_logged =
      subst (λ due. Settles r due (applied op) (append op r)) (sym due_logged)
      (record { count = 0; dropped = 0; reply_is = refl; drains = done (ap (find (λ o. is_ready o (r.log ++ op ∷ []))) empty) })

-- ---- the operations of a page

applied_in_time : (op : Op) → applied op ≢ Refused NoMemory
applied_in_time op e = absurd (cc)

-- none of these is the replica's own
abbrev pub AreForeign : List ℕ → List Op → Type 0
AreForeign name ops = (op : Op) → Contains ops op → op.id.replica ≢ name

abbrev pub AllApplied : Replica → List Op → List Reply → Replica → Type 0
AllApplied r ops replies s = (replies ≡ map applied ops) × (s ≡ with_more ops r)

nothing_more : (r : Replica) → r ≡ with_more [] r
nothing_more r = λ i. record r { log = sym (append-nil r.log) i }

one_more : (op : Op) (ops : List Op) (r : Replica) → with_more ops (append op r) ≡ with_more (op ∷ ops) r
one_more op ops r = λ i. record r { log = append_assoc r.log (op ∷ []) ops i }

pub delivers_all : {r s : Replica} {ops : List Op} {replies : List Reply} → Delivers r ops replies s → r.held ≡ [] → IsGoodAfter r.log ops
    → AreForeign r.name ops → AllApplied r ops replies s
delivers_all (ends {r}) empty good foreign = (refl, nothing_more r)
delivers_all (again {r} {s} {t} {op} {ops} {replies} event rest) empty good foreign =
    elim event [
      | inl does ↦
          absurd (applied_in_time op (sym (logged_alone r op empty good.0 (foreign op (Contains-here ops refl)) (Refused NoMemory) s does).0))
      | inr lacks ↦
          subst (λ z. z.held ≡ [] → IsGoodAfter z.log (op ∷ ops) → AreForeign z.name (op ∷ ops) → AllApplied z (op ∷ ops) replies t) lacks.1
          (λ e g f. delivers_all rest e g f) empty good foreign
    ]
delivers_all (next {r} {s} {t} {op} {ops} {reply} {replies} event in_time rest) empty good foreign =
    elim event [
      | inl does ↦ and_then does (λ e g f. delivers_all rest e g f)
      | inr lacks ↦ absurd (in_time lacks.0)
    ]
  where
    and_then : Does r (Deliver op) reply s → (s.held ≡ [] → IsGoodAfter s.log ops → AreForeign s.name ops → AllApplied s ops replies t)
        → AllApplied r (op ∷ ops) (reply ∷ replies) t
    and_then does ih =
        let one = logged_alone r op empty good.0 (foreign op (Contains-here ops refl)) reply s does in
        let more = subst (λ z. z.held ≡ [] → IsGoodAfter z.log ops → AreForeign z.name ops → AllApplied z ops replies t) one.1 ih empty good.1 (λ o c. foreign o (Contains-there op ops c)) in
        (λ i. one.0 i ∷ more.0 i, more.1 ∙ one_more op ops r)

-- the deliveries that make it
pub may_deliver : (ops : List Op) (r : Replica) → r.held ≡ [] → IsGoodAfter r.log ops → AreForeign r.name ops
    → Delivers r ops (map applied ops) (with_more ops r)
may_deliver [] r empty good foreign =
    subst (Delivers r [] []) (nothing_more r) ends
may_deliver (op ∷ ops) r empty good foreign =
    next {s = append op r} (inl (may_be_logged r op empty good.0 (foreign op (Contains-here ops refl)))) (applied_in_time op)
    (subst (Delivers (append op r) ops (map applied ops)) (one_more op ops r)
    (may_deliver ops (append op r) empty good.1 (λ o c. foreign o (Contains-there op ops c))))

-- ---- what a longer front leaves

-- what the front covers it still covers
covered_still : (log more : List Op) (i : Id) → covers (front_of log) i ≡ true → covers (front_of (log ++ more)) i ≡ true
covered_still log more i h =
    let r = any_from (λ o. reaches o.id.replica o.id.counter i) log (sym (covers-front_of log i) ∙ h) in
    covers-front_of (log ++ more) i
    ∙ any_at (λ o. reaches o.id.replica o.id.counter i) (log ++ more) (Contains-append_left log more r.0 r.1) r.2

-- what fits behind a log isn't covered by the log's front
uncovered_next : (log : List Op) (op : Op) → Fits op log → covers (front_of log) op.id ≡ false
uncovered_next log op fits =
    covers-front_of log op.id
    ∙ any_none (λ o. reaches o.id.replica o.id.counter op.id) log
    (λ o c. false_from_ne_true (reaches o.id.replica o.id.counter op.id) (λ h.
    let p = and_parts (bytes_eq o.id.replica op.id.replica) (nat_le op.id.counter o.id.counter) h in
    let less : o.id.counter < op.id.counter = covered_less fits o.id (chain_covers fits o c ((bytes_decides o.id.replica op.id.replica).0 p.0)) in
    let most : op.id.counter ≤ o.id.counter = leb-true op.id.counter o.id.counter p.1 in
    omega arith))

uncovered_later : (log ops : List Op) (op : Op) → IsGoodAfter log ops → Contains ops op → covers (front_of log) op.id ≡ false
uncovered_later log ops op good c =
    let r = Contains-split ops c in
    let good = subst (IsGoodAfter log) r.2 good in
    let fits : Fits op (log ++ r.0) = (good_split log r.0 (op ∷ r.1) good).1.0 in
    false_from_ne_true (covers (front_of log) op.id) (λ h.
    both_ways (covers (front_of (log ++ r.0)) op.id) (uncovered_next (log ++ r.0) op fits) (covered_still log r.0 op.id h))

-- a filter that keeps none of the first, and all of the rest
filter_rest : {X : Type 0} (test : X → Bool) (first rest : List X) → ((x : X) → Contains first x → test x ≡ false)
    → ((x : X) → Contains rest x → test x ≡ true) → filter test (first ++ rest) ≡ rest
filter_rest test [] [] none all = refl
filter_rest test [] (x ∷ rest) none all =
    ap (λ b. cond b (x ∷ filter test rest) (filter test rest)) (all x (Contains-here rest refl))
    ∙ ap (λ l. x ∷ l) (filter_rest test [] rest none (λ y c. all y (Contains-there x rest c)))
filter_rest test (x ∷ first) rest none all =
    ap (λ b. cond b (x ∷ filter test (first ++ rest)) (filter test (first ++ rest))) (none x (Contains-here first refl))
    ∙ filter_rest test first rest (λ y c. none y (Contains-there x first c)) all

-- by a narrower test, of what a wider one keeps
filter_narrow : {X : Type 0} (wide narrow : X → Bool) (xs : List X) → ((x : X) → wide x ≡ false → narrow x ≡ false)
    → filter narrow xs ≡ filter narrow (filter wide xs)
filter_narrow wide narrow [] within = refl
filter_narrow {X} wide narrow (x ∷ xs) within = by (wide x) refl (filter_narrow wide narrow xs within)
  where
    by : (b : Bool) → wide x ≡ b → filter narrow xs ≡ filter narrow (filter wide xs)
        → cond (narrow x) (x ∷ filter narrow xs) (filter narrow xs) ≡ filter narrow (cond b (x ∷ filter wide xs) (filter wide xs))
    by true e ih = ap (λ l. cond (narrow x) (x ∷ l) l) ih
    by false e ih = ap (λ b. cond b (x ∷ filter narrow xs) (filter narrow xs)) (within x e) ∙ ih

-- after the first of what the front doesn't cover are logged, it doesn't cover the rest
since_rest : (log other first rest : List Op) → since (front_of log) other ≡ first ++ rest → IsGoodAfter (log ++ first) rest
    → since (front_of (log ++ first)) other ≡ rest
since_rest log other first rest is good =
    filter_narrow old new other (λ o h. ap not (covered_still log first o.id (not-false (covers (front_of log) o.id) h)))
    ∙ ap (filter new) is
    ∙ filter_rest new first rest gone left
  where
    old : Op → Bool
    old o = not (covers (front_of log) o.id)

    new : Op → Bool
    new o = not (covers (front_of (log ++ first)) o.id)

    gone : (o : Op) → Contains first o → new o ≡ false
    gone o c = ap not (front_of-covers (log ++ first) o o.id (Contains-append_right log first o c) refl (omega arith))

    left : (o : Op) → Contains rest o → new o ≡ true
    left o c = ap not (uncovered_later (log ++ first) rest o good c)

-- ---- pages

-- what a replica is that asks on
pub record IsAsking (other r : Replica) : Type 0 where
  pub empty : r.held ≡ []
  pub good : IsGoodAfter r.log (since (front_of r.log) other.log)
  pub foreign : AreForeign r.name (since (front_of r.log) other.log)

-- the first of what it lacks, and the rest
module _ (other r : Replica) (asking : IsAsking other r) (first rest : List Op) (is : since (front_of r.log) other.log ≡ first ++ rest) where
  first_good : IsGoodAfter r.log first × IsGoodAfter (r.log ++ first) rest
  first_good = good_split r.log first rest (subst (IsGoodAfter r.log) is asking.good)

  first_foreign : AreForeign r.name first
  first_foreign o c = asking.foreign o (subst (λ l. Contains l o) (sym is) (Contains-append_left first rest o c))

  pub left_after : since (front_of (r.log ++ first)) other.log ≡ rest
  left_after = since_rest r.log other.log first rest is first_good.1

  pub asks_on : IsAsking other (with_more first r)
  asks_on = record {
    empty = asking.empty;
    good = subst (IsGoodAfter (r.log ++ first)) (sym left_after) first_good.1;
    foreign = λ o c.
        asking.foreign o (subst (λ l. Contains l o) (sym is) (Contains-append_right first rest o (subst (λ l. Contains l o) left_after c)));
  }

  pub first_applied : {s : Replica} {replies : List Reply} → Delivers r first replies s → AllApplied r first replies s
  first_applied h = delivers_all h asking.empty first_good.0 first_foreign

  pub first_may : Delivers r first (map applied first) (with_more first r)
  first_may = may_deliver first r asking.empty first_good.0 first_foreign

-- what a page leaves
abbrev behind : Replica → ℕ → ℕ → Replica → List Op
behind r limit so_far other =
    drop limit (since (front_of r.log) (take so_far other.log)) ++ since (front_of r.log) (drop so_far other.log)

page_first : (r other : Replica) (limit so_far : ℕ) → since (front_of r.log) other.log ≡ page r limit (take so_far other.log) ++ behind r limit so_far other
page_first r other limit so_far =
    let new : Op → Bool = λ o. not (covers (front_of r.log) o.id) in
    let now = filter new (take so_far other.log) in
    ap (filter new) (sym (take-append-drop so_far other.log))
    ∙ filter-append new (take so_far other.log) (drop so_far other.log)
    ∙ ap (λ l. l ++ filter new (drop so_far other.log)) (sym (take-append-drop limit now))
    ∙ append_assoc (take limit now) (drop limit now) (filter new (drop so_far other.log))

-- it has logged the first of what it lacked, and the replies say so
pub record HasFetched (other r : Replica) (replies : List Reply) (s : Replica) : Type 0 where
  pub first : List Op
  pub rest : List Op
  pub is : since (front_of r.log) other.log ≡ first ++ rest
  pub replies_are : replies ≡ map applied first
  pub after : s ≡ with_more first r

-- a page, and then more
fetched_then : {other r : Replica} {more : List Reply} {t : Replica} (asking : IsAsking other r) (first rest : List Op)
    → since (front_of r.log) other.log ≡ first ++ rest → HasFetched other (with_more first r) more t
    → HasFetched other r (map applied first ++ more) t
fetched_then {other} {r} asking first rest is then = record {
  first = first ++ then.first;
  rest = then.rest;
  is =
      is ∙ ap (λ l. first ++ l) (sym (left_after other r asking first rest is) ∙ then.is)
      ∙ sym (append_assoc first then.first then.rest);
  replies_are = ap (λ l. map applied first ++ l) then.replies_are ∙ sym (map-append applied first then.first);
  after = then.after ∙ λ i. record r { log = append_assoc r.log first then.first i };
}

pub fetches_first : {other r s : Replica} {replies : List Reply} → Fetches other r replies s → IsAsking other r → HasFetched other r replies s
fetches_first {other} (stops {r}) asking =
    record { first = []; rest = since (front_of r.log) other.log; is = refl; replies_are = refl; after = nothing_more r }
fetches_first {other} (asks {r} {s} {t} {replies} {more} limit so_far delivers later) asking =
    let first = page r limit (take so_far other.log) in
    let rest = behind r limit so_far other in
    let is = page_first r other limit so_far in
    let one = first_applied other r asking first rest is delivers in
    let then = subst (λ z. IsAsking other z → HasFetched other z more t) one.1
    (λ a. fetches_first later a) (asks_on other r asking first rest is) in
    subst (λ l. HasFetched other r (l ++ more) t) (sym one.0) (fetched_then asking first rest is then)

pub asking_still : {other r s : Replica} {replies : List Reply} → HasFetched other r replies s → IsAsking other r → IsAsking other s
asking_still {other} {r} h asking = subst (IsAsking other) (sym h.after) (asks_on other r asking h.first h.rest h.is)

-- ---- from the premise

pub asking_from : {r other : Replica} → MayFetch r other → IsAsking other r
asking_from {r} {other} may =
    let log = may.pull in
    let split = good_split [] r.log (since (front_of r.log) other.log) (pulled_good r.log other.log log.good log.other_good log.holds log.other_holds log.room) in
    record { empty = may.none_held; good = split.1; foreign = foreign }
  where
    foreign : AreForeign r.name (since (front_of r.log) other.log)
    foreign o c same =
        let kept = filter-Contains (λ o. not (covers (front_of r.log) o.id)) other.log c in
        both_ways (covers (front_of r.log) o.id) (not-true (covers (front_of r.log) o.id) kept.1)
        (front_of-covers r.log o o.id (may.own o kept.0 same) refl (omega arith))

pub fetched : {r other s : Replica} {replies : List Reply} → MayFetch r other → Fetches other r replies s → HasFetched other r replies s
fetched may h = fetches_first h (asking_from may)

-- as many as there are replies
pub first_is : {other r s : Replica} {replies : List Reply} (h : HasFetched other r replies s)
    → h.first ≡ take (length replies) (since (front_of r.log) other.log)
first_is {other} {r} h =
    sym (take-append_seam h.first h.rest)
    ∙ λ i. take ((sym (length-map h.first applied) ∙ ap length (sym h.replies_are)) i) (sym h.is i)

-- a further page may be delivered
pub may_go_on : (r other s : Replica) (replies : List Reply) (limit so_far : ℕ) → MayFetch r other → Fetches other r replies s
    → (more : List Reply) × (t : Replica) × Delivers s (page s limit (take so_far other.log)) more t
may_go_on r other s replies limit so_far may h =
    let first = page s limit (take so_far other.log) in (
      map applied first,
      with_more first s,
      first_may other s (asking_still (fetched may h) (asking_from may)) first (behind s limit so_far other) (page_first s other limit so_far),
    )

none_taken : {X : Type 0} (n : ℕ) (xs : List X) → 0 < n → take n xs ≡ [] → xs ≡ []
none_taken n [] some none = refl
none_taken zero (x ∷ xs) some none = absurd (omega (arith, some))
none_taken (suc n) (x ∷ xs) some none = absurd (cc)

-- where a further page is empty, all is pulled
pub fetched_all : (r other s : Replica) → MayFetch r other → FetchesAll other r s → s.log ≡ pulled r.log other.log
fetched_all r other s may all =
    let asking = asking_from may in
    let h = fetched may all.fetches in
    let log : s.log ≡ r.log ++ h.first = ap (λ (z : Replica). z.log) h.after in
    let empty : since (front_of s.log) other.log ≡ [] = none_taken all.limit (since (front_of s.log) other.log) all.some all.no_more in
    let none : h.rest ≡ [] = sym (left_after other r asking h.first h.rest h.is) ∙ ap (λ l. since (front_of l) other.log) (sym log) ∙ empty in
    log ∙ ap (λ l. r.log ++ l) (sym (append-nil h.first) ∙ ap (λ l. h.first ++ l) (sym none) ∙ sym h.is)

-- one page may have all
pub may_fetch_all : (r other : Replica) → MayFetch r other → (s : Replica) × FetchesAll other r s
may_fetch_all r other may =
    let asking = asking_from may in
    let lacks = since (front_of r.log) other.log in
    let is : lacks ≡ lacks ++ [] = sym (append-nil lacks) in
    let whole : page r (length lacks) (take (length other.log) other.log) ≡ lacks =
    ap (λ l. page r (length lacks) l) (take-length other.log) ∙ take-length lacks in (
      with_more lacks r,
      record {
        replies = map applied lacks ++ [];
        fetches = asks (length lacks) (length other.log)
            (subst (λ l. Delivers r l (map applied lacks) (with_more lacks r)) (sym whole) (first_may other r asking lacks [] is)) stops;
        limit = 1;
        some = omega arith;
        no_more = ap (take 1) (left_after other r asking lacks [] is);
      },
    )

-- ---- both ways

-- the other pulls from what pulled from it as from what was there before
pulled_then : (log other : List Op) → pulled other (pulled log other) ≡ pulled other log
pulled_then log other =
    let new : Op → Bool = λ o. not (covers (front_of other) o.id) in
    let rest = since (front_of log) other in
    let known : filter new rest ≡ [] = ap (filter new) (sym (append-nil rest)) ∙ filter_rest new rest [] (λ o c.
    let there = (filter-Contains (λ o. not (covers (front_of log) o.id)) other c).0 in
    ap not (front_of-covers other o o.id there refl (omega arith))) (λ o c. absurd (Contains-nil c)) in
    ap (λ l. other ++ l) (filter-append new log rest ∙ ap (λ l. filter new log ++ l) known ∙ append-nil (filter new log))

-- and may
may_pull_then : (log other : List Op) → MayPull log other → MayPull other (pulled log other)
may_pull_then log other may =
    record {
      good = may.other_good;
      other_good = pulled_good log other may.good may.other_good may.holds may.other_holds may.room;
      holds = λ o c h. elim (pulled_only log other o c) [
        | inl mine ↦ may.other_holds o mine h
        | inr theirs ↦ theirs
      ];
      other_holds = λ o c h. pulled_holds log other may.holds o (inr c);
      room = subst HasRoom (sym (pulled_then log other)) (may_pull_back log other may).room;
    }

may_fetch_then : (r other s : Replica) → MayFetch r other → MayFetch other r → s.log ≡ pulled r.log other.log → MayFetch other s
may_fetch_then r other s may back is =
    record {
      pull = subst (MayPull other.log) (sym is) (may_pull_then r.log other.log may.pull);
      none_held = back.none_held;
      own = λ o c same. elim (pulled_only r.log other.log o (subst (λ l. Contains l o) is c)) [
        | inl mine ↦ back.own o mine same
        | inr theirs ↦ theirs
      ];
    }

-- Where each fetches from the other, one after another, they hold the same operations, and say the same.
pub fetched_both : (r other s t : Replica) → MayFetch r other → MayFetch other r → FetchesAll other r s → FetchesAll s other t
    → SameMembers s.log t.log × (replica_facts s ≡ replica_facts t)
fetched_both r other s t may back all all_back = (
  λ o. subst (λ (p : List Op × List Op). Contains p.0 o ↔ Contains p.1 o) (λ i. (sym is i, sym is_back i)) (
    λ c. pulled_holds other.log r.log back.pull.holds o (turned (pulled_only r.log other.log o c)),
    λ c. pulled_holds r.log other.log may.pull.holds o (turned (pulled_only other.log r.log o c)),
  ),
  ap (λ l. facts (replay l)) is
      ∙ pulls_agree r.log other.log may.pull.good may.pull.other_good may.pull.holds may.pull.other_holds may.pull.room back.pull.room
      ∙ sym (ap (λ l. facts (replay l)) is_back),
)
  where
    is : s.log ≡ pulled r.log other.log
    is = fetched_all r other s may all

    is_back : t.log ≡ pulled other.log r.log
    is_back = fetched_all other s t (may_fetch_then r other s may back is) all_back ∙ ap (pulled other.log) is ∙ pulled_then r.log other.log
