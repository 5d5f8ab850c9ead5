-- Whether an empty map and an empty list are put, by the roles of operations.
use Rattle.std.specs.Prelude.{◌≡◌, List, Bool, true, false}
use Rattle.std.specs.List.{list_any}
use Rattle.doc_api.specs.Words.{Id}
use Rattle.doc_api.specs.declared.role.Role.{Role}
use Rattle.doc_api.specs.declared.role.Role.TheVariants as role
use Rattle.presence_set.specs.declared.empty_put.EmptyPut.{EmptyPut}

-- an operation of this role put an empty map
abbrev pub puts_map : Role → Bool
puts_map role.Map = true
puts_map _ = false

-- an operation of this role put an empty list
abbrev pub puts_list : Role → Bool
puts_list role.List = true
puts_list _ = false

-- of a kind for which it says no, none is put
pub record CoversPut (may : EmptyPut) (entries : List (Id × Role)) : Type 0 where
  pub map : may.map ≡ false → list_any (λ e. puts_map e.1) entries ≡ false
  pub list : may.list ≡ false → list_any (λ e. puts_list e.1) entries ≡ false
