-- Fronts that ascend, and one search in them.
use Rattle.std.proofs.Common.{◌≡◌, ℕ, ◌<◌, ◌≤◌, zero, suc, Bool, true, false, ◌&&◌, ◌||◌, bytes_eq, nat_le, List, [], ◌∷◌, length, get_or, refl, sym, ap, subst, ◌∙◌, true≢false, arith, Ordering, Less, Equal, Greater}
use Rattle.std.specs.Ordering.{is_lt, is_eq}
use Rattle.std.specs.Cmp.Lexicographic.{nat_list_cmp_total, texts_ties}
use Rattle.std.specs.List.Sorted.{IsPartitionedBy}
use Rattle.std.proofs.lemmas.Bool.{and_parts, false_from_ne_true}
use lib.Pointwise.{bytes_decides}
use Rattle.lamport_id.specs.declared.id.Id.{Id}
use Rattle.lamport_id.specs.Order.{name_cmp}
use Rattle.version_vector.specs.Front.{covers, is_ascending, reaches}

pub is_ascending-short : (front : List (List ℕ × ℕ)) → length front ≤ 1 → is_ascending front ≡ true
is_ascending-short [] h = refl
is_ascending-short (entry ∷ []) h = refl
is_ascending-short (entry ∷ next ∷ rest) h = absurd (omega arith)

pub is_Less : (o : Ordering) → is_lt o ≡ true → o ≡ Less
is_Less Less h = refl
is_Less Equal h = absurd (true≢false (sym h))
is_Less Greater h = absurd (true≢false (sym h))

less_through : (a b c : List ℕ) → is_lt (name_cmp a b) ≡ true → is_lt (name_cmp b c) ≡ true → is_lt (name_cmp a c) ≡ true
less_through a b c e f = ap is_lt (nat_list_cmp_total.trans a b c (is_Less (name_cmp a b) e) (is_Less (name_cmp b c) f))

-- a lesser name is another
less_differs : (a b : List ℕ) → is_lt (name_cmp a b) ≡ true → bytes_eq a b ≡ false
less_differs a b h = texts_ties a b ∙ ap is_eq (is_Less (name_cmp a b) h)

-- the rest of a front that ascends
pub ascending-rest : (e : List ℕ × ℕ) (front : List (List ℕ × ℕ)) → is_ascending (e ∷ front) ≡ true → is_ascending front ≡ true
ascending-rest e [] h = refl
ascending-rest e (f ∷ front) h = (and_parts (is_lt (name_cmp e.0 f.0)) (is_ascending (f ∷ front)) h).1

-- the first name is less than each behind it
first_less : (e : List ℕ × ℕ) (front : List (List ℕ × ℕ)) → is_ascending (e ∷ front) ≡ true → (j : ℕ) (d : List ℕ × ℕ) → j < length front
    → is_lt (name_cmp e.0 (get_or front j d).0) ≡ true
first_less e [] h j d within = absurd (omega arith)
first_less e (f ∷ front) h zero d within = (and_parts (is_lt (name_cmp e.0 f.0)) (is_ascending (f ∷ front)) h).0
first_less e (f ∷ front) h (suc j) d within =
    let p = and_parts (is_lt (name_cmp e.0 f.0)) (is_ascending (f ∷ front)) h in
    less_through e.0 f.0 (get_or front j d).0 p.0 (first_less f front p.1 j d (omega arith))

-- the pairs with a lesser name come first
pub lesser_first : (front : List (List ℕ × ℕ)) (name : List ℕ) → is_ascending front ≡ true → IsPartitionedBy (λ (e : List ℕ × ℕ). is_lt (name_cmp e.0 name)) front
lesser_first [] name h i j d le within less = absurd (omega arith)
lesser_first (e ∷ front) name h zero zero d le within less = less
lesser_first (e ∷ front) name h zero (suc j) d le within less = less_through e.0 (get_or front j d).0 name (first_less e front h j d (omega arith)) less
lesser_first (e ∷ front) name h (suc i) zero d le within less = absurd (omega arith)
lesser_first (e ∷ front) name h (suc i) (suc j) d le within less =
    lesser_first front name (ascending-rest e front h) i j d (omega arith) (omega arith) less

-- a name that is not less than the first is none of those behind it
none_behind : (e : List ℕ × ℕ) (front : List (List ℕ × ℕ)) (id : Id) → is_ascending (e ∷ front) ≡ true → is_lt (name_cmp e.0 id.replica) ≡ false
    → covers front id ≡ false
none_behind e [] id h least = refl
none_behind e (f ∷ front) id h least =
    let p = and_parts (is_lt (name_cmp e.0 f.0)) (is_ascending (f ∷ front)) h in
    let other : bytes_eq f.0 id.replica ≡ false =
    false_from_ne_true (bytes_eq f.0 id.replica)
    (λ same. true≢false (sym (subst (λ (n : List ℕ). is_lt (name_cmp e.0 n) ≡ true) ((bytes_decides f.0 id.replica).0 same) p.0) ∙ least)) in
    let above : is_lt (name_cmp f.0 id.replica) ≡ false =
    false_from_ne_true (is_lt (name_cmp f.0 id.replica)) (λ less. true≢false (sym (less_through e.0 f.0 id.replica p.0 less) ∙ least)) in
    (λ i. ((other i && nat_le id.counter f.1) || none_behind f front id p.1 above i))

or_none : (b c : Bool) → c ≡ false → (b || c) ≡ b
or_none true c h = refl
or_none false c h = h

-- what stands where a search ends reaches the id, if a pair does
pub covers-found : (front : List (List ℕ × ℕ)) (id : Id) (n : ℕ) (d : List ℕ × ℕ) → is_ascending front ≡ true
    → ((k : ℕ) (d : List ℕ × ℕ) → k < n → is_lt (name_cmp (get_or front k d).0 id.replica) ≡ true)
    → ((d : List ℕ × ℕ) → is_lt (name_cmp (get_or front n d).0 id.replica) ≡ false) → n < length front
    → covers front id ≡ reaches id (get_or front n d)
covers-found [] id n d h lesser least within = absurd (omega arith)
covers-found (e ∷ front) id zero d h lesser least within = or_none (reaches id e) (covers front id) (none_behind e front id h (least d))
covers-found (e ∷ front) id (suc n) d h lesser least within =
    (λ i. ((less_differs e.0 id.replica (lesser 0 d (omega arith)) i && nat_le id.counter e.1) || covers front id))
    ∙ covers-found front id n d (ascending-rest e front h) (λ k d below. lesser (suc k) d (omega arith)) least (omega arith)

-- and where it ends behind all, none does
pub covers-none : (front : List (List ℕ × ℕ)) (id : Id) → ((k : ℕ) (d : List ℕ × ℕ) → k < length front → is_lt (name_cmp (get_or front k d).0 id.replica) ≡ true)
    → covers front id ≡ false
covers-none [] id lesser = refl
covers-none (e ∷ front) id lesser =
    (λ i. ((less_differs e.0 id.replica (lesser 0 e (omega arith)) i && nat_le id.counter e.1) || covers front id))
    ∙ covers-none front id (λ k d below. lesser (suc k) d (omega arith))
