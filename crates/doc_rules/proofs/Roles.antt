-- Roles after one more operation: its own is what it does there, and the others stay. And the values that roles give.
use Rattle.std.proofs.Common.{◌≡◌, ◌≢◌, List, [], ◌∷◌, ◌++◌, Bool, true, false, not, ◌&&◌, ◌||◌, Option, Some, None, if◌then◌else◌, Contains, refl, sym, ap, ◌∙◌, true≢false}
use Rattle.std.specs.List.{list_any}
use Rattle.std.proofs.lemmas.Bool.{and_parts, both_ways, false_from_ne_true, not-true}
use Rattle.doc_api.specs.Words.{Id, Scalar, Op, Key, Tagged, Mutation, Assign, Insert, Delete, Add}
use Rattle.json_scalar.specs.declared.scalar.Val.TheVariants.{Scalar as Plain, EmptyMap, EmptyList}
use Rattle.list_laws.proofs.Members.{Contains-here, Contains-there}
use Rattle.crdt_rules.specs.Same.{id_eq, key_eq, path_eq}
use Rattle.crdt_rules.specs.Effect.{clears, marks, scalar_put, value_put, path_of, end_key}
use Rattle.crdt_rules.specs.Context.{empty, entered}
use Rattle.crdt_rules.specs.Facts.{Facts, facts, step_facts, ends_here}
use Rattle.crdt_rules.specs.Fits.{Fits}
use Rattle.crdt_rules.specs.Free.{is_cleared}
use Rattle.crdt_rules.specs.Free as free
use Rattle.crdt_rules.specs.Log.{IsGood, replay}
use Rattle.crdt_rules.proofs.Chain.{fits_new}
use Rattle.crdt_rules.proofs.NextStep.{facts_push}
use Rattle.crdt_rules.proofs.Readings.{here_from}
use Rattle.crdt_rules.proofs.ReplayFacts.{replay_present, replay_register}
use Rattle.crdt_rules.proofs.SameLaws.{id_decides, eq_from}
use Rattle.crdt_rules.proofs.StepFacts.{entered-false}
use Rattle.crdt_rules.proofs.Tests.{any_none}
use Rattle.version_vector.specs.Front.{covers}
use Rattle.doc_api.specs.declared.role.Role.{Role}
use Rattle.doc_api.specs.declared.role.Role.TheVariants as role
use Rattle.std.specs.Prelude.{option_and_then, is_some}
use Rattle.doc_rules.specs.Views.{AgreeOnPresent}
use Rattle.doc_rules.specs.Role.{value_put_at, value_in, role_put, logged_role, role_here, roles_of, AreOf, values_in, step_roles}

module _ (p : List Tagged) (k : Key) (i : Id) where
  -- behind operations of which none ends here
  role-behind : (log later : List Op) → ((o : Op) → Contains log o → ends_here o p k i ≡ false) → logged_role (log ++ later) p k i ≡ logged_role later p k i
  role-behind [] later none = refl
  role-behind (o ∷ log) later none = rw (none o (Contains-here log refl)) (role-behind log later (λ z c. none z (Contains-there o log c)))

  -- before one that doesn't end here
  role-before : (log : List Op) (op : Op) → ends_here op p k i ≡ false → logged_role (log ++ op ∷ []) p k i ≡ logged_role log p k i
  role-before [] op not_here = rw not_here refl
  role-before (o ∷ log) op not_here = ap (λ r. if ends_here o p k i then role_put o.mutation else r) (role-before log op not_here)

  -- what was put here is what the role and the scalar give
  put_value : (m : Mutation) (before : Option Scalar) → value_put m ≡ value_in (role_put m) (entered true (scalar_put m) before)
  put_value (Assign (Plain s)) before = refl
  put_value (Assign EmptyMap) before = refl
  put_value (Assign EmptyList) before = refl
  put_value (Insert (Plain s)) before = refl
  put_value (Insert EmptyMap) before = refl
  put_value (Insert EmptyList) before = refl
  put_value Delete before = refl
  put_value (Add n) before = refl

  value_given : (log : List Op) → value_put_at log p k i ≡ value_in (logged_role log p k i) (free.value_at scalar_put log p k i)
  value_given [] = refl
  value_given (o ∷ log) = by (ends_here o p k i) (value_given log)
    where
      by : (b : Bool) → value_put_at log p k i ≡ value_in (logged_role log p k i) (free.value_at scalar_put log p k i)
          → (if b then value_put o.mutation else value_put_at log p k i)
          ≡ value_in (if b then role_put o.mutation else logged_role log p k i) (entered b (scalar_put o.mutation) (free.value_at scalar_put log p k i))
      by true ih = put_value o.mutation (free.value_at scalar_put log p k i)
      by false ih = ih ∙ ap (value_in (logged_role log p k i)) (sym (entered-false (scalar_put o.mutation) (free.value_at scalar_put log p k i)))

and_true : (a b : Bool) → b ≡ true → (a && b) ≡ a
and_true true b h = h
and_true false b h = refl

pub role_new : (log : List Op) (op : Op) (p : List Tagged) (k : Key) → Fits op log → logged_role (log ++ op ∷ []) p k op.id ≡ role_here op p k
role_new log op p k fits =
    role-behind p k op.id log (op ∷ [])
    (λ o c. false_from_ne_true (ends_here o p k op.id) (λ h. fits_new fits o c ((here_from o p k op.id h).id)))
    ∙ ap (λ b. if b then role_put op.mutation else role.Through) (and_true (path_eq (path_of op) p && key_eq (end_key op) k) (id_eq op.id op.id) (id_decides.itself op.id))

pub role_old : (log : List Op) (op : Op) (p : List Tagged) (k : Key) (i : Id) → op.id ≢ i → logged_role (log ++ op ∷ []) p k i ≡ logged_role log p k i
role_old log op p k i other = role-before p k i log op (false_from_ne_true (ends_here op p k i) (λ h. other ((here_from op p k i h).id)))

-- of a present id, the role and the register's entry give the value that was put
pub present_value : (log : List Op) (p : List Tagged) (k : Key) (i : Id) → IsGood log → (facts (replay log)).present p k i ≡ true
    → value_put_at log p k i ≡ value_in (logged_role log p k i) ((facts (replay log)).register p k i)
present_value log p k i good here =
    let kept = not-true (is_cleared log p k i)
    (and_parts (list_any (λ o. id_eq o.id i && marks o p k) log) (not (is_cleared log p k i)) (ap (λ f. f p k i) (sym (replay_present log good)) ∙ here)).1 in
    let entry : (facts (replay log)).register p k i ≡ free.value_at scalar_put log p k i =
    ap (λ f. f p k i) (replay_register log good) ∙ ap (λ b. if◌then◌else◌ {A = Option Scalar} b None (free.value_at scalar_put log p k i)) kept in
    value_given p k i log ∙ ap (value_in (logged_role log p k i)) (sym entry)

-- the roles of a good log and its registers give what was put
pub roles_give_values : (log : List Op) → IsGood log → AgreeOnPresent (facts (replay log)) (values_in (facts (replay log)) (roles_of (facts (replay log)) log)) (value_put_at log)
roles_give_values log good p k i here =
    ap (λ b. option_and_then (λ r. value_in r ((facts (replay log)).register p k i)) (if◌then◌else◌ {A = Option Role} b (Some (logged_role log p k i)) None)) here
    ∙ sym (present_value log p k i good here)

-- ---- all roles after one more operation

-- a new id makes no place present
absent_new : (log : List Op) (op : Op) (p : List Tagged) (k : Key) → IsGood log → Fits op log → (facts (replay log)).present p k op.id ≡ false
absent_new log op p k good fits =
    ap (λ f. f p k op.id) (replay_present log good)
    ∙ ap (λ b. b && not (is_cleared log p k op.id))
    (any_none (λ o. id_eq o.id op.id && marks o p k) log
    (λ o c. ap (λ b. b && marks o p k) (false_from_ne_true (id_eq o.id op.id) (λ e. fits_new fits o c (id_decides.same o.id op.id e)))))

-- of an operation that marks the place
marked_role : (kept : Bool) (r h : Role) → r ≡ h → ◌≡◌ {A = Option Role} (if kept || true then Some r else None) (Some h)
marked_role true r h e = ap Some e
marked_role false r h e = ap Some e

-- and of the others
kept_role : (here cleared : Bool) (r s : Role) → (here ≡ true → r ≡ s)
    → ◌≡◌ {A = Option Role} (if (here && not cleared) || false then Some r else None) (if cleared then None else (if here then Some s else None))
kept_role true true r s e = refl
kept_role true false r s e = ap Some (e refl)
kept_role false true r s e = refl
kept_role false false r s e = refl

pub roles_after : (log : List Op) (op : Op) (p : List Tagged) (k : Key) (i : Id) → IsGood log → Fits op log
    → roles_of (step_facts (facts (replay log)) op (covers op.front)) (log ++ op ∷ []) p k i
    ≡ step_roles (roles_of (facts (replay log)) log) op (covers op.front) p k i
roles_after log op p k i good fits = by (marks op p k) refl (id_eq op.id i) refl
  where
    by : (a : Bool) → marks op p k ≡ a → (b : Bool) → id_eq op.id i ≡ b
        → ◌≡◌ {A = Option Role} (if ((facts (replay log)).present p k i && not (clears op p k && covers op.front i)) || (a && b) then Some (logged_role (log ++ op ∷ []) p k i) else None)
        (if a && b then Some (role_here op p k) else (if clears op p k && covers op.front i then None else (if (facts (replay log)).present p k i then Some (logged_role log p k i) else None)))
    by true m true e =
        marked_role ((facts (replay log)).present p k i && not (clears op p k && covers op.front i)) (logged_role (log ++ op ∷ []) p k i) (role_here op p k)
        (ap (logged_role (log ++ op ∷ []) p k) (sym (id_decides.same op.id i e)) ∙ role_new log op p k fits)
    by true m false e = kept_role ((facts (replay log)).present p k i) (clears op p k && covers op.front i) (logged_role (log ++ op ∷ []) p k i) (logged_role log p k i) (λ h. role_old log op p k i (λ same. both_ways (id_eq op.id i) e (eq_from id_decides op.id i same)))
    by false m b e =
        kept_role ((facts (replay log)).present p k i) (clears op p k && covers op.front i) (logged_role (log ++ op ∷ []) p k i) (logged_role log p k i)
        (λ h. role_old log op p k i (λ same. both_ways ((facts (replay log)).present p k i) (ap ((facts (replay log)).present p k) (sym same) ∙ absent_new log op p k good fits) h))

-- ---- facts and roles of a log

-- where no place is present, no id has a role
none_here : (o : Option Role) (here : Bool) (r : Role) → is_some o ≡ here → here ≡ false → o ≡ (if here then Some r else None)
none_here None here r is none = sym (ap (λ b. if◌then◌else◌ {A = Option Role} b (Some r) None) none)
none_here (Some s) here r is none = absurd (true≢false (is ∙ none))

-- the facts of the empty document, and roles of its present ids
pub are_of_new : {f : Facts} {roles : List Tagged → Key → Id → Option Role} → f ≡ facts empty
    → ((p : List Tagged) (k : Key) (i : Id) → is_some (roles p k i) ≡ f.present p k i) → AreOf [] f roles
are_of_new {f} {roles} is present = record {
  facts_are = is;
  roles_are = λ p k i.
      none_here (roles p k i) (f.present p k i) role.Through (present p k i)
      (ap (λ (g : Facts). g.present p k i) is ∙ ap (λ g. g p k i) (replay_present [] tt));
}

-- what says the same
pub are_of_same : {log : List Op} {f g : Facts} {roles others : List Tagged → Key → Id → Option Role} → AreOf log f roles → g ≡ f
    → ((p : List Tagged) (k : Key) (i : Id) → others p k i ≡ roles p k i) → AreOf log g others
are_of_same {log} are facts_same roles_same = record {
  facts_are = facts_same ∙ are.facts_are;
  roles_are = λ p k i. roles_same p k i ∙ are.roles_are p k i ∙ ap (λ h. roles_of h log p k i) (sym facts_same);
}

-- after one more operation that fits
pub are_of_next : {log : List Op} {f g : Facts} {roles next : List Tagged → Key → Id → Option Role} → AreOf log f roles → (op : Op) → IsGood log → Fits op log
    → g ≡ step_facts f op (covers op.front)
    → ((p : List Tagged) (k : Key) (i : Id) → next p k i ≡ step_roles roles op (covers op.front) p k i)
    → AreOf (log ++ op ∷ []) g next
are_of_next {log} {f} {g} {roles} {next} are op good fits facts_step roles_step = record {
  facts_are = stepped ∙ sym (facts_push log good op);
  roles_are = λ p k i.
      roles_step p k i
      ∙ ap (λ (r : Option Role). if◌then◌else◌ {A = Option Role} (marks op p k && id_eq op.id i) (Some (role_here op p k)) (if clears op p k && covers op.front i then None else r))
      (are.roles_are p k i ∙ ap (λ h. roles_of h log p k i) are.facts_are)
      ∙ sym (roles_after log op p k i good fits)
      ∙ ap (λ h. roles_of h (log ++ op ∷ []) p k i) (sym stepped);
}
  where
    stepped : g ≡ step_facts (facts (replay log)) op (covers op.front)
    stepped = facts_step ∙ ap (λ h. step_facts h op (covers op.front)) are.facts_are
