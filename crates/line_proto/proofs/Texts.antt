-- The texts of replies.
use Rattle.std.proofs.Common.{◌≡◌, ℕ, ◌<◌, ◌≤◌, ◌^◌, ◌&&◌, ◌⊎◌, ◌≢◌, nat_le, true, List, [], ◌∷◌, ◌++◌, length, decimal, append_assoc, refl, sym, ap, ◌∙◌, arith}
use Rattle.std.proofs.lemmas.Fmt.{length-decimal-le}
use Rattle.std.proofs.lemmas.Bool.{leb-true, and_parts}
use Rattle.std.proofs.lemmas.Bool.Decides.{nat_tests}
use Rattle.std.specs.List.{list_all}
use Rattle.json.proofs.Printed.Strings.{escape_byte_plain}
use Rattle.json_scalar.specs.Refusal.{name_of}
use Rattle.json_scalar.specs.declared.refusal.Refusal.{Refusal}
use Rattle.json_scalar.specs.declared.refusal.Refusal.TheVariants.{NotJson, BadRequest, LineTooLong, NoSuchDocument, NotOpen, BadValue, BadCursor, NoSuchVariable, IndexPastEnd, AtHead, NotInList, BadOperation, BadFront, Forked, IdConflict, OwnName, HeldFull, LogFull, TooManyReplicas, TooDeep, SeatsFull, NoMemory, VariablesFull, NotHeld, ListsDiffer, CopyRefused}
use Rattle.json.specs.Print.{escape, quoted}
use Rattle.lamport_id.specs.Name.{is_name_byte, is_name}

pub length_of_u64 : (n : ℕ) → n < 2 ^ 64 → length (decimal n) ≤ 20
length_of_u64 n h = length-decimal-le 20 n (omega arith) (omega arith) h

pub ruleset digits = (length_of_u64)

-- a byte of a name needs no escape
plain_byte : (b : ℕ) → is_name_byte b ≡ true → (b ≢ 34) × (b ≢ 92) × (32 ≤ b)
plain_byte b h = (λ e. absurd (omega (arith, ruled b h)), λ e. absurd (omega (arith, ruled b h)), omega (arith, ruled b h))
  where
    ruled : (b : ℕ) → is_name_byte b ≡ true → (97 ≤ b × b ≤ 122) ⊎ ((48 ≤ b × b ≤ 57) ⊎ (b ≡ 45))
    ruled b h = grind (arith, nat_tests)

pub escape-word : (word : List ℕ) → list_all is_name_byte word ≡ true → escape word ≡ word
escape-word [] h = refl
escape-word (b ∷ bs) h =
    let (first, rest) = and_parts (is_name_byte b) (list_all is_name_byte bs) h in
    let (quote, slash, shown) = plain_byte b first in
    rw (escape_byte_plain b quote slash shown, escape-word bs rest) refl

pub quoted-word : (word : List ℕ) → is_name word ≡ true → quoted word ≡ 34 ∷ (word ++ 34 ∷ [])
quoted-word word h = ap (λ s. 34 ∷ (s ++ 34 ∷ [])) (escape-word word (and_parts (nat_le 1 (length word) && nat_le (length word) 32) (list_all is_name_byte word) h).1)

pub length-word : (word : List ℕ) → is_name word ≡ true → length word ≤ 32
length-word word h =
    let sizes = (and_parts (nat_le 1 (length word) && nat_le (length word) 32) (list_all is_name_byte word) h).0 in
    leb-true (length word) 32 (and_parts (nat_le 1 (length word)) (nat_le (length word) 32) sizes).1

pub ruleset words = (quoted-word, length-word)

-- a word in quotes, piece by piece
pub in_quotes : (line word : List ℕ) → is_name word ≡ true → ((line ++ 34 ∷ []) ++ word) ++ 34 ∷ [] ≡ line ++ quoted word
in_quotes line word h =
    let pieces : ((line ++ 34 ∷ []) ++ word) ++ 34 ∷ [] ≡ line ++ (34 ∷ (word ++ 34 ∷ [])) = simp append_assoc in
    pieces ∙ ap (λ s. line ++ s) (sym (quoted-word word h))

-- the pieces of a line of two parts, and of one of three
pub two_parts : (word a b : List ℕ) → (((([] ++ word) ++ a) ++ 44 ∷ []) ++ b) ++ 93 ∷ 10 ∷ [] ≡ (word ++ (a ++ 44 ∷ (b ++ 93 ∷ []))) ++ 10 ∷ []
two_parts word a b = simp append_assoc

pub three_parts : (word a b c : List ℕ)
    → (((((([] ++ word) ++ a) ++ 44 ∷ []) ++ b) ++ 44 ∷ []) ++ c) ++ 93 ∷ 10 ∷ [] ≡ (word ++ (a ++ 44 ∷ (b ++ 44 ∷ (c ++ 93 ∷ [])))) ++ 10 ∷ []
three_parts word a b c = simp append_assoc

pub name_of-is_name : (r : Refusal) → is_name (name_of r) ≡ true
name_of-is_name NotJson = refl
name_of-is_name BadRequest = refl
name_of-is_name LineTooLong = refl
name_of-is_name NoSuchDocument = refl
name_of-is_name NotOpen = refl
name_of-is_name BadValue = refl
name_of-is_name BadCursor = refl
name_of-is_name NoSuchVariable = refl
name_of-is_name IndexPastEnd = refl
name_of-is_name AtHead = refl
name_of-is_name NotInList = refl
name_of-is_name BadOperation = refl
name_of-is_name BadFront = refl
name_of-is_name (Forked last) = refl
name_of-is_name IdConflict = refl
name_of-is_name OwnName = refl
name_of-is_name HeldFull = refl
name_of-is_name LogFull = refl
name_of-is_name TooManyReplicas = refl
name_of-is_name TooDeep = refl
name_of-is_name SeatsFull = refl
name_of-is_name NoMemory = refl
name_of-is_name VariablesFull = refl
name_of-is_name NotHeld = refl
name_of-is_name ListsDiffer = refl
name_of-is_name CopyRefused = refl

pub ruleset causes = (name_of-is_name)

-- the pieces of a line around a text
pub around_pieces : (prefix text : List ℕ) → (prefix ++ text) ++ 93 ∷ 10 ∷ [] ≡ (prefix ++ (text ++ 93 ∷ [])) ++ 10 ∷ []
around_pieces prefix text = simp append_assoc

pub ruleset around = (around_pieces)
