-- Names of replicas that differ.
use Rattle.std.proofs.Common.{◌≡◌, ◌≢◌, ◌≤◌, ◌+◌, ◌↔◌, ℕ, Bool, true, false, inl, inr, List, [], ◌∷◌, ◌++◌, Result, Ok, Err, ap, drop, subst, sym, refl, ◌∙◌, arith}
use Rattle.std.proofs.lemmas.Bool.{cases_lt}
use Rattle.std.specs.Fmt.{decimal}
use Rattle.std.specs.List.{AllByRecursion}
use Rattle.std.specs.Str.Parse.{AllDigits}
use Rattle.std.proofs.lemmas.Fmt.{decimal_injective, decimal_is_IsNumeral}
use Rattle.std.proofs.lemmas.Str.Parse.{digit_from_value}
use Rattle.stored_log.specs.Limits.{last_epoch}
use Rattle.stored_log.specs.declared.fault.Fault.{Fault}
use Rattle.stored_log.specs.declared.fault.Fault.TheVariants.{Refused, Store}
use Rattle.served_log.specs.Restarts.{FollowFrom, HaveOwnNames, Run}

-- no digit is a dash
no_dash : (front more : List ℕ) → AllDigits 10 (front ++ (45 ∷ more)) → ⊥
no_dash [] more digits = omega (arith, digit_from_value 45 digits.0)
no_dash (c ∷ front) more digits = no_dash front more digits.1

-- what is behind the last dash is one text
behind_dash : (a b ds es : List ℕ) → AllDigits 10 ds → AllDigits 10 es → a ++ (45 ∷ ds) ≡ b ++ (45 ∷ es) → ds ≡ es
behind_dash [] [] ds es digits others same = ap (drop 1) same
behind_dash [] (c ∷ b) ds es digits others same = absurd (no_dash b es (subst (AllDigits 10) (ap (drop 1) same) digits))
behind_dash (c ∷ a) [] ds es digits others same = absurd (no_dash a ds (subst (AllDigits 10) (sym (ap (drop 1) same)) others))
behind_dash (c ∷ a) (d ∷ b) ds es digits others same = behind_dash a b ds es digits others (ap (drop 1) same)

same_epoch : (r s : Run) → s.replica ≡ r.replica → s.begun.epoch ≡ r.begun.epoch
same_epoch r s same =
    let n = decimal_is_IsNumeral s.begun.epoch (omega (arith, s.raised.given_out)) in
    let m = decimal_is_IsNumeral r.begun.epoch (omega (arith, r.raised.given_out)) in
    decimal_injective s.begun.epoch r.begun.epoch (omega (arith, s.raised.given_out)) (omega (arith, r.raised.given_out))
    (behind_dash s.name r.name (decimal s.begun.epoch) (decimal r.begun.epoch) n.0.1 m.0.1 (sym s.raised.named ∙ same ∙ r.raised.named))

others_differ : (r : Run) (epoch : ℕ) → r.begun.epoch ≤ epoch → (later : List Run) → FollowFrom epoch later
    → AllByRecursion (λ (s : Run). s.replica ≢ r.replica) later
others_differ r epoch no_less [] follow = tt
others_differ r epoch no_less (s ∷ later) follow = (
  λ same. omega (arith, no_less, follow.0, s.raised.raised, same_epoch r s same),
  others_differ r s.begun.epoch (omega (arith, no_less, follow.0, s.raised.raised)) later follow.1,
)

pub own_names : (epoch : ℕ) (runs : List Run) → FollowFrom epoch runs → HaveOwnNames runs
own_names epoch [] follow = tt
own_names epoch (r ∷ later) follow = (others_differ r r.begun.epoch (omega arith) later follow.1, own_names r.begun.epoch later follow.1)

-- an epoch that was begun was given out
pub is_given_out : {X Y : Type 0} (x : X) (has_failed : Bool) (old new : ℕ) → ((◌≡◌ {A = Result X Fault} (Ok x) (Err Refused)) ↔ ((has_failed ≡ false) × (last_epoch ≤ old)))
    → (has_failed ≡ true → (◌≡◌ {A = Result X Fault} (Ok x) (Err Store)) × Y) → new ≡ old + 1 → new ≤ last_epoch
is_given_out x true old new refused shut next = let e = (shut refl).0 in absurd cc
is_given_out x false old new refused shut next = elim (cases_lt old last_epoch) [
  | inl less ↦ omega (arith, next, less)
  | inr most ↦ let e = refused.1 (refl, most) in absurd cc
]
