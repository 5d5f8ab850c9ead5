-- The request that a line writes is within the limits that its types keep.
use Rattle.std.proofs.Common.{◌≡◌, ℕ, zero, suc, ◌^◌, ◌<◌, ◌≤◌, ◌&&◌, pos, negsuc, nat_lt, nat_le, Bool, true, false, cond, Float, List, Option, Some, None, Ok, option_and_then, drop, slice_index, ◌==◌, refl, sym, arith}
use Rattle.std.proofs.lemmas.Bool.{and_parts, leb-true, lt-ltb, ltb-true}
use Rattle.std.specs.Str.{is_utf8}
use Rattle.fast_float.specs.Text.{Parts, digits_of, minus, scan, with_sign}
use Rattle.json.specs.Json as json
use Rattle.json.specs.Lex.{tokens}
use Rattle.serde_json.specs.Data.{Num, unsigned, negative, float, Data, null, boolean, number, string, array, object, Items, no_items, item}
use Rattle.serde_json.specs.Read.{float_of, is_integer, max_depth, number_from, number_of, of_items, of_json, read}
use Rattle.op_core.proofs.Wires.{option_map-Some, some_step}
use Rattle.doc_api.specs.Words.{Mutation, Assign, Insert, Delete, Add}
use Rattle.op_core.specs.Shape.{is_mutation, is_shaped}
use Rattle.line_proto.specs.Reading.{line_data, request_of}
use Rattle.line_proto.specs.Written.{request_data, is_change, is_request, is_start}
use Rattle.line_proto.specs.declared.request.CursorExpr.{CursorExpr}
use Rattle.line_proto.specs.declared.request.DocRequest.TheVariants as ask
use Rattle.line_proto.specs.declared.request.Request.{Request}
use Rattle.line_proto.specs.declared.request.Request.TheVariants.{Of}
use Rattle.line_proto.proofs.Found.{reads_line}
use Rattle.json_scalar.specs.declared.scalar.Scalar.TheVariants.{Int, Text, Bool as Truth, Null}
use Rattle.json_scalar.specs.declared.scalar.Val.TheVariants.{Scalar, EmptyMap, EmptyList}

-- ---- JSON that is read has integers of 64 bits alone

abbrev IsFit : Data → Type 0
IsFit null = Unit {0}
IsFit (boolean b) = Unit {0}
IsFit (number (unsigned n)) = Unit {0}
IsFit (number (negative (pos n))) = Unit {0}
IsFit (number (negative (negsuc n))) = nat_lt n (2 ^ 63) ≡ true
IsFit (number (float x)) = Unit {0}
IsFit (string s) = Unit {0}
IsFit (array ds) = Unit {0}
IsFit (object ms) = Unit {0}

-- those of its items, if it is an array
abbrev AreFit : Items → Type 0
AreFit no_items = Unit {0}
AreFit (item d ds) = IsFit d × AreFit ds

abbrev HasFit : Data → Type 0
HasFit null = Unit {0}
HasFit (boolean b) = Unit {0}
HasFit (number n) = Unit {0}
HasFit (string s) = Unit {0}
HasFit (array ds) = AreFit ds
HasFit (object ms) = Unit {0}

if_float : (b : Bool) (x : Float) (n : Num) → cond b (Some (float x)) None ≡ Some n → IsFit (number n)
if_float true x n h = let is : n ≡ float x = cc in rw is tt
if_float false x n h = cc

signed : (d : ℕ) → 0 < d → d ≤ 2 ^ 63 → IsFit (number (negative (with_sign true d)))
signed zero some within = absurd (omega (arith, some))
signed (suc d) some within = lt-ltb d (2 ^ 63) (omega (arith, within))

if_signed : (whole some within : Bool) (d : ℕ) (other : Option Num) (n : Num) → (some ≡ true → 0 < d) → (within ≡ true → d ≤ 2 ^ 63) → ((m : Num) → other ≡ Some m → IsFit (number m))
    → cond (whole && some && within) (Some (negative (with_sign true d))) other ≡ Some n → IsFit (number n)
if_signed true true true d other n positive few behind h = let same : n ≡ negative (with_sign true d) = cc in rw same (signed d (positive refl) (few refl))
if_signed true true false d other n positive few behind h = behind n h
if_signed true false within d other n positive few behind h = behind n h
if_signed false some within d other n positive few behind h = behind n h

if_unsigned : (b : Bool) (d : ℕ) (other : Option Num) (n : Num) → ((m : Num) → other ≡ Some m → IsFit (number m)) → cond b (Some (unsigned d)) other ≡ Some n → IsFit (number n)
if_unsigned true d other n behind h = let same : n ≡ unsigned d = cc in rw same tt
if_unsigned false d other n behind h = behind n h

number_from-fits : (sign : Bool) (p : Parts) (n : Num) → number_from sign p ≡ Some n → IsFit (number n)
number_from-fits true p n h =
    if_signed (is_integer p) (nat_lt 0 (digits_of p)) (nat_le (digits_of p) (2 ^ 63)) (digits_of p) (float_of true p) n (ltb-true _ _) (leb-true _ _) (λ m k. if_float _ _ m k) h
number_from-fits false p n h = if_unsigned _ (digits_of p) (float_of false p) n (λ m k. if_float _ _ m k) h

number_of-fits : (s : List ℕ) (n : Num) → number_of s ≡ Some n → IsFit (number n)
unfolding number_of
number_of-fits s n h = go (slice_index s 0 == minus) (scan (drop 1 s)) (scan s) h
  where
    go : (b : Bool) (p q : Parts) → cond b (number_from true p) (number_from false q) ≡ Some n → IsFit (number n)
    go true p q h = number_from-fits true p n h
    go false p q h = number_from-fits false q n h

of_json-fits : (j : json.Json) (d : Data) → of_json j ≡ Some d → IsFit d
of_json-fits json.null d h = let is : d ≡ null = cc in rw is tt
of_json-fits (json.boolean b) d h = let is : d ≡ boolean b = cc in rw is tt
of_json-fits (json.number s) d h = let n = option_map-Some number (number_of s) d h in rw (sym n.2) (number_of-fits s n.0 n.1)
of_json-fits (json.string s) d h = let is : d ≡ string s = cc in rw is tt
of_json-fits (json.array js) d h = let ds = option_map-Some array (of_items js) d h in rw (sym ds.2) tt
of_json-fits (json.object ms) d h = let members = option_map-Some object _ d h in rw (sym members.2) tt

of_items-fit : (js : json.Items) (ds : Items) → of_items js ≡ Some ds → AreFit ds
of_items-fit json.no_items ds h = let is : ds ≡ no_items = cc in rw is tt
of_items-fit (json.item j js) ds h =
    let first = some_step (of_json j) _ ds h in
    let rest = option_map-Some (item first.0) (of_items js) ds first.2 in
    rw (sym rest.2) (of_json-fits j first.0 first.1, of_items-fit js rest.0 rest.1)

of_json-has : (j : json.Json) (d : Data) → of_json j ≡ Some d → HasFit d
of_json-has json.null d h = let is : d ≡ null = cc in rw is tt
of_json-has (json.boolean b) d h = let is : d ≡ boolean b = cc in rw is tt
of_json-has (json.number s) d h = let n = option_map-Some number (number_of s) d h in rw (sym n.2) tt
of_json-has (json.string s) d h = let is : d ≡ string s = cc in rw is tt
of_json-has (json.array js) d h = let ds = option_map-Some array (of_items js) d h in rw (sym ds.2) (of_items-fit js ds.0 ds.1)
of_json-has (json.object ms) d h = let members = option_map-Some object _ d h in rw (sym members.2) tt

line_data-has : (line : List ℕ) (d : Data) → line_data line ≡ Some d → HasFit d
line_data-has line d h = go (is_utf8 line) h
  where
    go : (b : Bool) → cond b (read line) None ≡ Some d → HasFit d
    go true h =
        let j = some_step (option_and_then (λ p. json.if_last p.0 p.1) (json.value max_depth (tokens line))) of_json d h in
        of_json-has j.0 d j.2
    go false h = cc

-- ---- the request that has such JSON

-- what the types of its parts give of a request
abbrev pub IsWellMadeRequest : Request → Type 0
IsWellMadeRequest (Of name (ask.Change e m)) = is_mutation m ≡ true
IsWellMadeRequest (Of name (ask.Deliver op)) = is_shaped op ≡ true
IsWellMadeRequest request = Unit {0}

change_within : (document : List ℕ) (expr : CursorExpr) (change : Mutation) → is_change change ≡ true → HasFit (request_data (Of document (ask.Change expr change))) → is_mutation change ≡ true
change_within document expr (Assign (Scalar (Int (pos n)))) within fit = within
change_within document expr (Assign (Scalar (Int (negsuc n)))) within fit = fit.1.1.1.0
change_within document expr (Assign (Scalar (Text s))) within fit = within
change_within document expr (Assign (Scalar (Truth b))) within fit = within
change_within document expr (Assign (Scalar Null)) within fit = within
change_within document expr (Assign EmptyMap) within fit = within
change_within document expr (Assign EmptyList) within fit = within
change_within document expr (Insert (Scalar (Int (pos n)))) within fit = within
change_within document expr (Insert (Scalar (Int (negsuc n)))) within fit = fit.1.1.1.0
change_within document expr (Insert (Scalar (Text s))) within fit = within
change_within document expr (Insert (Scalar (Truth b))) within fit = within
change_within document expr (Insert (Scalar Null)) within fit = within
change_within document expr (Insert EmptyMap) within fit = within
change_within document expr (Insert EmptyList) within fit = within
change_within document expr Delete within fit = refl
change_within document expr (Add (pos n)) within fit = within
change_within document expr (Add (negsuc n)) within fit = fit.1.1.1.0

well_made : (request : Request) → is_request request ≡ true → HasFit (request_data request) → IsWellMadeRequest request
well_made (Of document (ask.Change expr change)) within fit = change_within document expr change (and_parts (is_start expr.start) (is_change change) within).1 fit
well_made (Of document (ask.Deliver op)) within fit = within
well_made request within fit = tt

pub read_well_made : (line : List ℕ) (request : Request) → request_of line ≡ Ok request → IsWellMadeRequest request
read_well_made line request is =
    let written = reads_line line (Ok request) (λ other. sym is) in
    well_made request written.1 (line_data-has line (request_data request) written.0)
