-- The text of what was put.
use Rattle.std.proofs.Common.{◌≡◌, ℕ, ◌+◌, ◌<◌, length, get_or, take, List, [], ◌∷◌, ◌++◌, map, sym, ap, ◌∙◌, refl, append_assoc, append-nil, Result, Ok, Err}
use Rattle.std.specs.Prelude.{⊤}
use Rattle.std.proofs.lemmas.List.{map-append, take_more}
use Rattle.json.specs.Token.{Token, begin_array, end_array}
use Rattle.json.specs.Tree.{items_tokens}
use Rattle.json.specs.Print.{print}
use Rattle.serde_json.specs.Data.{Data}
use Rattle.serde_json.specs.View.{items_of}
use Rattle.serde_json.specs.Written.{compact_text, items_outline}
use Rattle.serde_json.proofs.Texts.{print-outline}
use Rattle.op_core.specs.Wire.{list_data}
use Rattle.json_scalar.specs.declared.refusal.Refusal.{Refusal}
use Rattle.json_text.specs.Tokens.{data_tokens, all_tokens, Puts}

-- a whole text with nothing before it
pub whole_text : (before text : List ℕ) (tokens : List Token) (d : Data) → text ≡ before ++ print tokens → before ≡ [] → tokens ≡ data_tokens d → text ≡ compact_text d
whole_text before text tokens d is nothing same = is ∙ (λ i. nothing i ++ print (same i)) ∙ print-outline d

pub all_tokens-append : (ds es : List Data) → all_tokens (ds ++ es) ≡ all_tokens ds ++ all_tokens es
all_tokens-append [] es = refl
all_tokens-append (d ∷ ds) es = ap (λ ts. data_tokens d ++ ts) (all_tokens-append ds es) ∙ sym (append_assoc (data_tokens d) (all_tokens ds) (all_tokens es))

-- an array is its brackets around its items
pub data_tokens-list : (ds : List Data) → data_tokens (list_data ds) ≡ begin_array ∷ (all_tokens ds ++ end_array ∷ [])
data_tokens-list ds = ap (λ ts. begin_array ∷ ts) (items ds)
  where
    items : (ds : List Data) → items_tokens (items_outline (items_of ds)) ≡ all_tokens ds ++ end_array ∷ []
    items [] = refl
    items (d ∷ ds) = ap (λ ts. data_tokens d ++ ts) (items ds) ∙ sym (append_assoc (data_tokens d) (all_tokens ds) (end_array ∷ []))

pub put_list : (old : List Token) (ds : List Data) → ((old ++ begin_array ∷ []) ++ all_tokens ds) ++ end_array ∷ [] ≡ old ++ data_tokens (list_data ds)
put_list old ds =
    let grouped : ((old ++ begin_array ∷ []) ++ all_tokens ds) ++ end_array ∷ [] ≡ old ++ begin_array ∷ (all_tokens ds ++ end_array ∷ []) = simp append_assoc in
    grouped ∙ ap (λ ts. old ++ ts) (sym (data_tokens-list ds))

pub ruleset lists = (put_list)

pub put_pair : (old : List Token) (d e : Data) → (((old ++ begin_array ∷ []) ++ data_tokens d) ++ data_tokens e) ++ end_array ∷ [] ≡ old ++ data_tokens (list_data (d ∷ e ∷ []))
put_pair old d e = simp append_assoc

pub ruleset pairs = (put_pair)

pub put_five : (old : List Token) (a b c d e : Data)
    → (((old ++ begin_array ∷ []) ++ data_tokens a ++ data_tokens b ++ data_tokens c) ++ data_tokens d ++ data_tokens e) ++ end_array ∷ []
    ≡ old ++ data_tokens (list_data (a ∷ b ∷ c ∷ d ∷ e ∷ []))
put_five old a b c d e = simp append_assoc

pub ruleset fives = (put_five)

-- what is put last completes what is put in all
pub put_last : (last all old mid new : List Token) (r : Result ⊤ Refusal) → Puts last mid new r → mid ++ last ≡ old ++ all → Puts all old new r
put_last last all old mid new (Ok _) put same = put ∙ same
put_last last all old mid new (Err _) put same = put

-- one more of the parts
pub put_next : {X : Type 0} (json : X → Data) (old : List Token) (xs : List X) (i : ℕ) (x : X) → i < length xs → x ≡ get_or xs i x
    → (old ++ all_tokens (map json (take i xs))) ++ data_tokens (json x) ≡ old ++ all_tokens (map json (take (i + 1) xs))
put_next json old xs i x within is =
    append_assoc old (all_tokens (map json (take i xs))) (data_tokens (json x))
    ∙ ap (λ ts. old ++ ts) (sym (ap all_tokens more ∙ all_tokens-append (map json (take i xs)) (json x ∷ []) ∙ ap (λ ts. all_tokens (map json (take i xs)) ++ ts) (append-nil (data_tokens (json x)))))
  where
    more : map json (take (i + 1) xs) ≡ map json (take i xs) ++ json x ∷ []
    more = ap (map json) (take_more xs i x within ∙ ap (λ y. take i xs ++ y ∷ []) (sym is)) ∙ map-append json (take i xs) (x ∷ [])

pub put_three : (old : List Token) (a b c : Data)
    → ((((old ++ begin_array ∷ []) ++ data_tokens a) ++ data_tokens b) ++ data_tokens c) ++ end_array ∷ [] ≡ old ++ data_tokens (list_data (a ∷ b ∷ c ∷ []))
put_three old a b c = simp append_assoc

pub ruleset threes = (put_three)

module _ {X : Type 0} (json : X → Data) where
  pub told_nothing : (old : List Token) → old ≡ old ++ all_tokens (map json [])
  told_nothing old = sym (append-nil old)

  -- some, and others behind them
  pub told_further : (old mid new : List Token) (xs ys : List X) → mid ≡ old ++ all_tokens (map json xs) → new ≡ mid ++ all_tokens (map json ys)
      → new ≡ old ++ all_tokens (map json (xs ++ ys))
  told_further old mid new xs ys first then =
      then ∙ ap (λ ts. ts ++ all_tokens (map json ys)) first ∙ append_assoc old (all_tokens (map json xs)) (all_tokens (map json ys))
      ∙ ap (λ ts. old ++ ts) (sym (ap all_tokens (map-append json xs ys) ∙ all_tokens-append (map json xs) (map json ys)))

  -- and one more
  pub told_one_more : (old mid new : List Token) (xs : List X) (x : X) → mid ≡ old ++ all_tokens (map json xs) → new ≡ mid ++ data_tokens (json x)
      → new ≡ old ++ all_tokens (map json (xs ++ x ∷ []))
  told_one_more old mid new xs x first then = told_further old mid new xs (x ∷ []) first (then ∙ ap (λ ts. mid ++ ts) (sym (append-nil (data_tokens (json x)))))
