-- Where a struct is seen as its lazy value, or as a blank one while there is none.
use Rattle.std.proofs.Common.{◌≡◌, Option, Some, unwrap_or, ap, ◌∙◌}

-- a value that is made is what clauses see
pub seen : {V : Type 0} (blank : V) {made now : V} {value : Option V} → Some made ≡ value → unwrap_or value blank ≡ now → made ≡ now
seen blank is sees = ap (λ v. unwrap_or v blank) is ∙ sees
