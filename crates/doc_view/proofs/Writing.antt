-- Parts of a shown element, written one behind another.
use Rattle.std.proofs.Common.{◌≡◌, ℕ, List, [], ◌∷◌, ◌++◌, Some, Result, Ok, Err, Bool, true, false, not, refl, sym, ap, ◌∙◌, append_assoc, append-nil}
use Rattle.std.specs.Prelude.{⊤}
use Rattle.json.specs.Token.{Token, begin_array, end_array}
use Rattle.serde_json.specs.Data.{Data, string}
use Rattle.op_core.specs.Wire.{list_data}
use Rattle.json_text.specs.Tokens.{data_tokens, all_tokens, Puts}
use Rattle.json_text.proofs.Texts.{all_tokens-append, data_tokens-list, put_list, put_pair}
use Rattle.doc_api.specs.Words.{Refusal, Key, Tagged}
use Rattle.doc_tree.specs.Nodes.{TreeValue}
use Rattle.doc_nodes.specs.declared.node.NodeNumber.{NodeNumber}
use Rattle.doc_tree.specs.Nodes.{tree_number}
use Rattle.doc_view.specs.ByNumber.{AtNode}
use Rattle.doc_view.specs.Readings.{GivesUnlessMemory}
use Rattle.doc_view.specs.Writing.{beginning, ending, begun, parts_tokens, WritesEach, WritesOne}

-- a branch is written if it has a part, or is put there
abbrev pub branch_of : List ℕ → Bool → List Data → List Data
branch_of tag false [] = []
branch_of tag true [] = list_data (string tag ∷ list_data [] ∷ []) ∷ []
branch_of tag put (d ∷ ds) = list_data (string tag ∷ list_data (d ∷ ds) ∷ []) ∷ []

begun-append : (was : Bool) (ds es : List Data) → begun (begun was ds) es ≡ begun was (ds ++ es)
begun-append was [] es = refl
begun-append was (d ∷ ds) [] = refl
begun-append was (d ∷ ds) (e ∷ es) = refl

parts_tokens-append : (tag : List ℕ) (was : Bool) (ds es : List Data) → parts_tokens tag was ds ++ parts_tokens tag (begun was ds) es ≡ parts_tokens tag was (ds ++ es)
parts_tokens-append tag true [] es = refl
parts_tokens-append tag true (d ∷ ds) es = sym (all_tokens-append (d ∷ ds) es)
parts_tokens-append tag false [] es = refl
parts_tokens-append tag false (d ∷ ds) es = ap (λ ts. beginning tag true ++ ts) (sym (all_tokens-append (d ∷ ds) es))

-- no part, and one
pub no_parts : (tag : List ℕ) (was : Bool) (old : List Token) → old ≡ old ++ parts_tokens tag was []
no_parts tag true old = sym (append-nil old)
no_parts tag false old = sym (append-nil old)

pub one_part : (tag : List ℕ) (was : Bool) (old : List Token) (d : Data) → (old ++ beginning tag (not was)) ++ data_tokens d ≡ old ++ parts_tokens tag was (d ∷ [])
one_part tag true old d = ap (λ ts. ts ++ data_tokens d) (append-nil old) ∙ ap (λ ts. old ++ ts) (sym (append-nil (data_tokens d)))
one_part tag false old d = append_assoc old (beginning tag true) (data_tokens d) ∙ ap (λ ts. old ++ (beginning tag true ++ ts)) (sym (append-nil (data_tokens d)))

-- parts behind others
pub begun_more : (was is new : Bool) (ds es : List Data) → is ≡ begun was ds → new ≡ begun is es → new ≡ begun was (ds ++ es)
begun_more was is new ds es first then = then ∙ ap (λ b. begun b es) first ∙ begun-append was ds es

pub more_parts : (tag : List ℕ) (was is : Bool) (old mid new : List Token) (ds es : List Data) → is ≡ begun was ds → mid ≡ old ++ parts_tokens tag was ds
    → new ≡ mid ++ parts_tokens tag is es → new ≡ old ++ parts_tokens tag was (ds ++ es)
more_parts tag was is old mid new ds es begins first then =
    then ∙ (λ i. first i ++ parts_tokens tag (begins i) es) ∙ append_assoc old (parts_tokens tag was ds) (parts_tokens tag (begun was ds) es)
    ∙ ap (λ ts. old ++ ts) (parts_tokens-append tag was ds es)

-- a whole branch
whole_branch : (tag : List ℕ) (d : Data) (ds : List Data)
    → (beginning tag true ++ all_tokens (d ∷ ds)) ++ ending true ≡ all_tokens (list_data (string tag ∷ list_data (d ∷ ds) ∷ []) ∷ [])
whole_branch tag d ds = sym (
    append-nil (data_tokens (list_data (string tag ∷ list_data (d ∷ ds) ∷ [])))
    ∙ ap (λ ts. begin_array ∷ Token.string tag ∷ (ts ++ end_array ∷ [])) (data_tokens-list (d ∷ ds))
    ∙ ap (λ ts. begin_array ∷ Token.string tag ∷ begin_array ∷ ts) (append_assoc (all_tokens (d ∷ ds)) (end_array ∷ []) (end_array ∷ []))
    )

branch_tokens : (tag : List ℕ) (put : Bool) (ds : List Data) → (beginning tag put ++ parts_tokens tag put ds) ++ ending (begun put ds) ≡ all_tokens (branch_of tag put ds)
branch_tokens tag false [] = refl
branch_tokens tag true [] = refl
branch_tokens tag true (d ∷ ds) = whole_branch tag d ds
branch_tokens tag false (d ∷ ds) = whole_branch tag d ds

pub branch_written : (tag : List ℕ) (put is : Bool) (old begins mid new : List Token) (ds : List Data) → begins ≡ old ++ beginning tag put → is ≡ begun put ds
    → mid ≡ begins ++ parts_tokens tag put ds → new ≡ mid ++ ending is → new ≡ old ++ all_tokens (branch_of tag put ds)
branch_written tag put is old begins mid new ds first same then last =
    last ∙ (λ i. (then ∙ ap (λ ts. ts ++ parts_tokens tag put ds) first ∙ append_assoc old (beginning tag put) (parts_tokens tag put ds)) i ++ ending (same i))
    ∙ append_assoc old (beginning tag put ++ parts_tokens tag put ds) (ending (begun put ds))
    ∙ ap (λ ts. old ++ ts) (branch_tokens tag put ds)

-- ---- what an answer writes

-- one value
pub one_put : (holds : Data → Type 0) (d : Data) (old new : List Token) (r : Result ⊤ Refusal) → holds d → Puts (data_tokens d) old new r
    → GivesUnlessMemory (λ _. WritesOne holds old new) r
one_put holds d old new (Ok x) h w = (d, h, w)
one_put holds d old new (Err e) h w = w

-- what is written at a node is written at its place
pub one_at : (tree : TreeValue) (n : NodeNumber) (holds : List Tagged → Key → Data → Type 0) (p : List Tagged) (k : Key) (old new : List Token) (r : Result ⊤ Refusal)
    → tree_number tree p k ≡ Some n → GivesUnlessMemory (λ _. WritesOne (λ d. AtNode tree n (λ q j. holds q j d)) old new) r → GivesUnlessMemory (λ _. WritesOne (holds p k) old new) r
one_at tree n holds p k old new (Ok x) at h = (h.0, h.1 p k at, h.2)
one_at tree n holds p k old new (Err e) at h = h

-- a branch
pub branch_put : (holds : List Data → Type 0) (tag : List ℕ) (put is : Bool) (old begins mid new : List Token) (ds : List Data) (r : Result ⊤ Refusal)
    → holds (branch_of tag put ds) → begins ≡ old ++ beginning tag put → is ≡ begun put ds → mid ≡ begins ++ parts_tokens tag put ds
    → Puts (ending is) mid new r → GivesUnlessMemory (λ _. WritesEach holds old new) r
branch_put holds tag put is old begins mid new ds (Ok x) h first same then w = (branch_of tag put ds, h, branch_written tag put is old begins mid new ds first same then w)
branch_put holds tag put is old begins mid new ds (Err e) h first same then w = w

-- an element of four parts
pub element_put : (holds : Data → Type 0) (old a b c d new : List Token) (ms ls vs cs : List Data) (r : Result ⊤ Refusal)
    → holds (list_data (ms ++ ls ++ vs ++ cs)) → a ≡ old ++ begin_array ∷ [] → b ≡ a ++ all_tokens ms → c ≡ b ++ all_tokens ls
    → d ≡ c ++ (all_tokens vs ++ all_tokens cs) → Puts (end_array ∷ []) d new r → GivesUnlessMemory (λ _. WritesOne holds old new) r
element_put holds old a b c d new ms ls vs cs (Ok x) h fa fb fc fd w =
    (list_data (ms ++ ls ++ vs ++ cs), h, w ∙ ap (λ ts. ts ++ end_array ∷ []) whole ∙ put_list old (ms ++ ls ++ vs ++ cs))
  where
    parts : (ms ls vs cs : List Data) (start : List Token) → ((start ++ all_tokens ms) ++ all_tokens ls) ++ (all_tokens vs ++ all_tokens cs) ≡ start ++ all_tokens (ms ++ ls ++ vs ++ cs)
    parts ms ls vs cs start =
        let grouped : ((start ++ all_tokens ms) ++ all_tokens ls) ++ (all_tokens vs ++ all_tokens cs) ≡ start ++ (((all_tokens ms ++ all_tokens ls) ++ all_tokens vs) ++ all_tokens cs) = simp append_assoc in
        grouped ∙ ap (λ ts. start ++ ts) (sym (all_tokens-append (ms ++ ls ++ vs) cs ∙ ap (λ ts. ts ++ all_tokens cs)
        (all_tokens-append (ms ++ ls) vs ∙ ap (λ ts. ts ++ all_tokens vs) (all_tokens-append ms ls))))

    whole : d ≡ (old ++ begin_array ∷ []) ++ all_tokens (ms ++ ls ++ vs ++ cs)
    whole = fd ∙ ap (λ ts. ts ++ (all_tokens vs ++ all_tokens cs)) (fc ∙ ap (λ ts. ts ++ all_tokens ls) (fb ∙ ap (λ ts. ts ++ all_tokens ms) fa)) ∙ parts ms ls vs cs (old ++ begin_array ∷ [])
element_put holds old a b c d new ms ls vs cs (Err e) h fa fb fc fd w = w

-- a name and one value
pub named_put : (holds : Data → Type 0) (name : List ℕ) (old a b c new : List Token) (r : Result ⊤ Refusal) → a ≡ old ++ begin_array ∷ []
    → b ≡ a ++ Token.string name ∷ [] → WritesOne holds b c → Puts (end_array ∷ []) c new r
    → GivesUnlessMemory (λ _. WritesOne (λ field. (d : Data) × holds d × (field ≡ list_data (string name ∷ d ∷ []))) old new) r
named_put holds name old a b c new (Ok x) fa fb (d, h, fc) w =
    (list_data (string name ∷ d ∷ []), (d, h, refl), w ∙ ap (λ ts. ts ++ end_array ∷ []) whole ∙ put_pair old (string name) d)
  where
    whole : c ≡ ((old ++ begin_array ∷ []) ++ Token.string name ∷ []) ++ data_tokens d
    whole = fc ∙ ap (λ ts. ts ++ data_tokens d) (fb ∙ ap (λ ts. ts ++ Token.string name ∷ []) fa)
named_put holds name old a b c new (Err e) fa fb h w = w
