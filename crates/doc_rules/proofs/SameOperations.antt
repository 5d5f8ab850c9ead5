-- Two good logs of the same operations are read alike.
use Rattle.std.proofs.Common.{◌≡◌, ◌⊎◌, inl, inr, List, [], ◌∷◌, Bool, true, false, Option, Some, None, Result, Ok, Err, if◌then◌else◌, Contains, refl, sym, ap, subst, ◌∙◌}
use Rattle.std.specs.List.{list_any}
use Rattle.std.specs.Prelude.{MatchResult}
use Rattle.std.proofs.lemmas.Bool.{false_from_ne_true, both_ways}
use Rattle.doc_api.specs.Words.{Id, Refusal, Cursor, Key, Tagged, Op}
use Rattle.doc_api.specs.declared.ask.Counts.{Counts}
use Rattle.doc_api.specs.declared.ask.Query.{Query}
use Rattle.doc_api.specs.declared.ask.Query.TheVariants as query
use Rattle.doc_api.specs.declared.ask.State.TheVariants as state
use Rattle.doc_api.specs.declared.reply.Reply.{Reply}
use Rattle.doc_api.specs.declared.reply.Reply.TheVariants as reply
use Rattle.doc_api.specs.declared.role.Role.{Role}
use Rattle.list_laws.specs.Walk.{SameMembers}
use Rattle.list_laws.proofs.Members.{Contains-nil, Contains-here, Contains-there, Contains-cases}
use Rattle.crdt_rules.specs.Effect.{value_put}
use Rattle.crdt_rules.specs.Facts.{facts, ends_here}
use Rattle.crdt_rules.specs.Log.{IsGood, replay}
use Rattle.crdt_rules.specs.Pull.{front_of}
use Rattle.crdt_rules.proofs.LastCounter.{last_counter-same}
use Rattle.crdt_rules.proofs.Readings.{here_from}
use Rattle.crdt_rules.proofs.SameSet.{HasOneEach, good_one_each, same_set_same_facts}
use Rattle.crdt_rules.proofs.Tests.{any_at, any_from}
use Rattle.doc_rules.specs.Answers.{IndexHere, LooksHere, Reads, IsOfOperations}
use Rattle.doc_rules.specs.Replica.{Replica, replica_facts}
use Rattle.doc_rules.specs.Resolve.{Resolves}
use Rattle.doc_rules.specs.Role.{value_put_at, role_put, logged_role, roles_of}
use Rattle.doc_rules.proofs.SameValues.{looks_same}
use Rattle.doc_rules.proofs.WholeFront.{fronts_same, front_rising, front_last}

-- ---- what the one operation of a test does, read off the first that passes it

module _ {X : Type 0} (test : Op → Bool) (does : Op → X) (first : List Op → X)
    (starts : (o : Op) (log : List Op) → first (o ∷ log) ≡ (if test o then does o else first log)) where
  first-none : (log : List Op) → ((o : Op) → Contains log o → test o ≡ false) → first log ≡ first []
  first-none [] none = refl
  first-none (o ∷ log) none =
      starts o log ∙ ap (λ b. if b then does o else first log) (none o (Contains-here log refl))
      ∙ first-none log (λ z c. none z (Contains-there o log c))

  -- operations that pass are one
  abbrev IsOne : List Op → Type 0
  IsOne log = (a b : Op) → Contains log a → Contains log b → test a ≡ true → test b ≡ true → a ≡ b

  first-one : (log : List Op) (o : Op) → IsOne log → Contains log o → test o ≡ true → first log ≡ does o
  first-one [] o one c passes = absurd (Contains-nil c)
  first-one (z ∷ log) o one c passes =
      starts z log ∙ by (test z) refl (Contains-cases z log c) (λ c. first-one log o (λ a b x y. one a b (Contains-there z log x) (Contains-there z log y)) c passes)
    where
      by : (b : Bool) → test z ≡ b → (z ≡ o) ⊎ Contains log o → (Contains log o → first log ≡ does o) → (if b then does z else first log) ≡ does o
      by true e place ih = ap does (one z o (Contains-here log refl) c e passes)
      by false e (inl here) ih = absurd (both_ways (test o) (ap test (sym here) ∙ e) passes)
      by false e (inr there) ih = ih there

  first-same : (log other : List Op) → SameMembers log other → IsOne log → IsOne other → first log ≡ first other
  first-same log other same one other_one = by (list_any test log) refl
    where
      by : (b : Bool) → list_any test log ≡ b → first log ≡ first other
      by true e =
          let r = any_from test log e in
          first-one log r.0 one r.1 r.2 ∙ sym (first-one other r.0 other_one ((same r.0).0 r.1) r.2)
      by false e =
          first-none log (λ o c. false_from_ne_true (test o) (λ h. both_ways (list_any test log) e (any_at test log c h)))
          ∙ sym (first-none other (λ o c. false_from_ne_true (test o) (λ h. both_ways (list_any test log) e (any_at test log ((same o).1 c) h))))

-- ---- values, roles and fronts

module _ (log other : List Op) (good : IsGood log) (other_good : IsGood other) (same : SameMembers log other) where
  facts_same : facts (replay log) ≡ facts (replay other)
  facts_same = same_set_same_facts log other good other_good same

  module _ (p : List Tagged) (k : Key) (i : Id) where
    one_ends : (ops : List Op) → HasOneEach ops → (a b : Op) → Contains ops a → Contains ops b → ends_here a p k i ≡ true → ends_here b p k i ≡ true → a ≡ b
    one_ends ops one a b c d e f = one a b c d ((here_from a p k i e).id ∙ sym (here_from b p k i f).id)

    pub value_at-same : value_put_at log p k i ≡ value_put_at other p k i
    value_at-same =
        first-same (λ o. ends_here o p k i) (λ o. value_put o.mutation) (λ ops. value_put_at ops p k i) (λ o ops. refl) log other same
        (one_ends log (good_one_each log good)) (one_ends other (good_one_each other other_good))

    pub role_at-same : logged_role log p k i ≡ logged_role other p k i
    role_at-same =
        first-same (λ o. ends_here o p k i) (λ o. role_put o.mutation) (λ ops. logged_role ops p k i) (λ o ops. refl) log other same
        (one_ends log (good_one_each log good)) (one_ends other (good_one_each other other_good))

    pub roles_of-same : roles_of (facts (replay log)) log p k i ≡ roles_of (facts (replay other)) other p k i
    roles_of-same j = if◌then◌else◌ {A = Option Role} ((facts_same j).present p k i) (Some (role_at-same j)) None

  pub front_of-same : front_of log ≡ front_of other
  front_of-same =
      fronts_same (front_of log) (front_of other) (front_rising log) (front_rising other)
      (λ name. front_last log name ∙ last_counter-same log other name (λ o is c. (same o).0 c) (λ o is c. (same o).1 c) ∙ sym (front_last other name))

-- ---- answers

module _ (r s : Replica) (good : IsGood r.log) (other_good : IsGood s.log) (same : SameMembers r.log s.log) where
  same_facts : replica_facts r ≡ replica_facts s
  same_facts = facts_same r.log s.log good other_good same

  pub answers_same : (mine theirs : Counts) (q : Query) (answer : Reply) → IsOfOperations q → Reads r mine q answer → Reads s theirs q answer
  answers_same mine theirs (query.Resolve place) answer of h = (h.0, subst (λ f. Resolves f place.start place.steps h.0) same_facts h.1, h.2)
  answers_same mine theirs (query.Index place) answer of h = (
    h.0,
    subst (λ f. Resolves f place.start place.steps h.0) same_facts h.1,
    subst (λ f. MatchResult h.0 (λ c. IndexHere f c answer) (λ e. answer ≡ reply.Refused e)) same_facts h.2,
  )
  answers_same mine theirs (query.Look l place) answer of h =
      (h.0, subst (λ f. Resolves f place.start place.steps h.0) same_facts h.1, by h.0 h.2)
    where
      by : (c : Result Cursor Refusal) → MatchResult c (λ c. LooksHere (replica_facts r) (value_put_at r.log) l c answer) (λ e. answer ≡ reply.Refused e)
          → MatchResult c (λ c. LooksHere (replica_facts s) (value_put_at s.log) l c answer) (λ e. answer ≡ reply.Refused e)
      by (Ok c) looks =
          looks_same (replica_facts s) (value_put_at r.log) (value_put_at s.log) (λ p k i here. value_at-same r.log s.log good other_good same p k i) l c answer
          (subst (λ f. LooksHere f (value_put_at r.log) l c answer) same_facts looks)
      by (Err e) refused = refused
  answers_same mine theirs (query.State state.Front) answer of h = h ∙ ap reply.Front (front_of-same r.log s.log good other_good same)
  answers_same mine theirs asked answer of h = absurd of
