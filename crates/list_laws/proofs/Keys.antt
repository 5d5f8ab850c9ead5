-- Laws of an order of keys, and of the test of equality that goes with it.
use Rattle.std.proofs.Common.{◌≡◌, ◌≢◌, Bool, true, false, refl, sym, ap, ◌∙◌, subst, true≢false, Ordering, Less, Equal, Greater}
use Rattle.std.specs.Ordering.{is_lt, is_eq, ordering_reverse}
use Rattle.std.proofs.lemmas.Cmp.{tied_itself}
use Rattle.list_laws.proofs.IdOrder.{IsIdOrder, irreflexive}

pub is_Less : (o : Ordering) → is_lt o ≡ true → o ≡ Less
is_Less Less e = refl
is_Less Equal e = absurd (true≢false (sym e))
is_Less Greater e = absurd (true≢false (sym e))

module _ {K : Type 0} {cmp : K → K → Ordering} (o : IsIdOrder cmp) where
  pub less≢equal : (a b : K) → cmp a b ≡ Less → a ≢ b
  less≢equal a b less same = irreflexive o {x = b} (subst (λ k. cmp k b ≡ Less) same less)

  pub less_back : (a b : K) → cmp a b ≡ Greater → cmp b a ≡ Less
  less_back a b h = o.total.antisymm b a ∙ ap ordering_reverse h

  pub greater_back : (a b : K) → cmp a b ≡ Less → cmp b a ≡ Greater
  greater_back a b h = o.total.antisymm b a ∙ ap ordering_reverse h

  pub not_less_back : (a b : K) → cmp a b ≡ Less → is_lt (cmp b a) ≡ false
  not_less_back a b h = ap is_lt (greater_back a b h)

-- an order of keys, and a test of equality that goes with it
pub record IsKeyOrder {K : Type 0} (eq : K → K → Bool) (cmp : K → K → Ordering) : Type 0 where
  pub order : IsIdOrder cmp
  pub alike : (a b : K) → is_eq (cmp a b) ≡ eq a b

module _ {K : Type 0} {eq : K → K → Bool} {cmp : K → K → Ordering} (o : IsKeyOrder eq cmp) where
  -- what passes the test is one
  pub same : (a b : K) → eq a b ≡ true → a ≡ b
  same a b h = o.order.exact a b (go (cmp a b) (o.alike a b ∙ h))
    where
      go : (r : Ordering) → is_eq r ≡ true → r ≡ Equal
      go Less e = absurd (true≢false (sym e))
      go Equal e = refl
      go Greater e = absurd (true≢false (sym e))

  pub itself : (a : K) → eq a a ≡ true
  itself a = sym (o.alike a a) ∙ ap is_eq (tied_itself o.order.total a)

  -- a lesser key is another, and so is a greater one
  pub apart : (a b : K) → cmp a b ≡ Less → eq a b ≡ false
  apart a b less = sym (o.alike a b) ∙ ap is_eq less

  pub apart_back : (a b : K) → cmp a b ≡ Less → eq b a ≡ false
  apart_back a b less = sym (o.alike b a) ∙ ap is_eq (greater_back o.order a b less)

  -- of two keys that are not the same one is less
  pub greater_is : (a b : K) → is_lt (cmp a b) ≡ false → eq a b ≡ false → cmp b a ≡ Less
  greater_is a b e f = o.order.total.antisymm b a ∙ go (cmp a b) e (o.alike a b ∙ f)
    where
      go : (r : Ordering) → is_lt r ≡ false → is_eq r ≡ false → ordering_reverse r ≡ Less
      go Less g h = absurd (true≢false g)
      go Equal g h = absurd (true≢false h)
      go Greater g h = refl
