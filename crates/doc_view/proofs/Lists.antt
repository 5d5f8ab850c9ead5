-- Elements of a list, one more at the end.
use Rattle.std.proofs.Common.{◌≡◌, ℕ, zero, suc, arith, ◌+◌, ◌<◌, List, [], ◌∷◌, ◌++◌, length, get_or, take, drop, filter, Bool, true, false, true≢false, Decides, if◌then◌else◌, refl, sym, ap, append-nil, subst, ◌∙◌}
use Rattle.std.proofs.lemmas.List.{take-append-drop}
use Rattle.doc_api.specs.Words.{Id, Scalar, Tagged}
use Rattle.op_core.specs.declared.cursor.Key.TheVariants.{Element}
use Rattle.crdt_rules.specs.Facts.{Facts}
use Rattle.doc_rules.specs.Views.{AreValues, HaveValues}
use Rattle.doc_rules.specs.Sorted.{AreThose}
use Rattle.doc_rules.specs.Sorted.AreThose.{none, keep, skip}

module _ {X : Type 0} {holds : X → Type 0} where
  those_kept : {xs kept : List X} (x : X) → AreThose holds xs kept → holds x → AreThose holds (xs ++ x ∷ []) (kept ++ x ∷ [])
  those_kept x none h = keep h none
  those_kept x (keep g rest) h = keep g (those_kept x rest h)
  those_kept x (skip g rest) h = skip g (those_kept x rest h)

  those_left : {xs kept : List X} (x : X) → AreThose holds xs kept → ¬ (holds x) → AreThose holds (xs ++ x ∷ []) kept
  those_left x none h = skip h none
  those_left x (keep g rest) h = keep g (those_left x rest h)
  those_left x (skip g rest) h = skip g (those_left x rest h)

  pub those_more : {xs kept : List X} (x : X) (b : Bool) → Decides b (holds x) → AreThose holds xs kept
      → AreThose holds (xs ++ x ∷ []) (kept ++ (if b then x ∷ [] else []))
  those_more x true d those = those_kept x those (d.0 refl)
  those_more {xs} {kept} x false d those =
      subst (λ l. AreThose holds (xs ++ x ∷ []) l) (sym (append-nil kept)) (those_left x those (λ h. absurd (true≢false (sym (d.1 h)))))

-- those of what passes a test that each of them passes
pub those_filtered : {X : Type 0} {holds : X → Type 0} (test : X → Bool) → ((x : X) → test x ≡ false → ¬ (holds x))
    → (xs ys kept : List X) → filter test xs ≡ ys → AreThose holds ys kept → AreThose holds xs kept
those_filtered {X} {holds} test fails [] ys kept is those = subst (λ (l : List X). AreThose holds l kept) (sym is) those
those_filtered {X} {holds} test fails (x ∷ xs) ys kept is those = go (test x) refl ys kept is those (those_filtered test fails xs)
  where
    go : (b : Bool) → test x ≡ b → (ys kept : List X) → (if b then x ∷ filter test xs else filter test xs) ≡ ys → AreThose holds ys kept
        → ((ys kept : List X) → filter test xs ≡ ys → AreThose holds ys kept → AreThose holds xs kept) → AreThose holds (x ∷ xs) kept
    go true e ys kept is none ih = absurd (cc)
    go true e ys kept is (keep {x = y} {xs = more} {kept = rest} h those) ih =
        let same : x ≡ y = cc in
        let left : filter test xs ≡ more = cc in
        subst (λ (z : X). AreThose holds (x ∷ xs) (z ∷ rest)) same (keep (subst holds (sym same) h) (ih more rest left those))
    go true e ys kept is (skip {x = y} {xs = more} h those) ih =
        let same : x ≡ y = cc in
        let left : filter test xs ≡ more = cc in
        skip (λ here. h (subst holds same here)) (ih more kept left those)
    go false e ys kept is those ih = skip (fails x e) (ih ys kept is those)

-- the first of those left is the next one
pub drop_gives : {X : Type 0} (xs : List X) (i : ℕ) (x : X) (rest : List X) → drop i xs ≡ x ∷ rest → (i < length xs) × (x ≡ get_or xs i x) × (drop (i + 1) xs ≡ rest)
drop_gives [] i x rest left = absurd (nil_has_none i left)
  where
    nil_has_none : (n : ℕ) → drop n [] ≡ x ∷ rest → ⊥
    nil_has_none zero e = cc
    nil_has_none (suc n) e = cc
drop_gives (y ∷ xs) zero x rest left = (omega arith, (let here : x ≡ y = cc in here), (let more : xs ≡ rest = cc in more))
drop_gives (y ∷ xs) (suc i) x rest left =
    let on = drop_gives xs i x rest left in
    let one : suc i + 1 ≡ suc (i + 1) = omega arith in
    (omega (arith, on.0), on.1, ap (λ (n : ℕ). drop n (y ∷ xs)) one ∙ on.2)

-- and where none is left all are taken
pub drop_none : {X : Type 0} (xs : List X) (i : ℕ) → drop i xs ≡ [] → take i xs ≡ xs
drop_none xs i left = sym (append-nil (take i xs)) ∙ ap (λ l. take i xs ++ l) (sym left) ∙ take-append-drop i xs

pub values-push : (f : Facts) (p : List Tagged) (ids : List Id) (items : List (Id × List Scalar)) (i : Id) (scalars : List Scalar)
    → HaveValues f p ids items → AreValues f p (Element i) scalars → HaveValues f p (ids ++ i ∷ []) (items ++ (i, scalars) ∷ [])
values-push f p [] [] i scalars h here = (refl, here, tt)
values-push f p (j ∷ ids) (item ∷ items) i scalars h here = (h.0, h.1, values-push f p ids items i scalars h.2 here)
values-push f p [] (item ∷ items) i scalars h here = absurd h
values-push f p (j ∷ ids) [] i scalars h here = absurd h
