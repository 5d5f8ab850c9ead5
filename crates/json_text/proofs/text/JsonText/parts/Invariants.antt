use Rattle.std.proofs.Common.{◌≡◌, ◌++◌, map, take}
use Rattle.json_text.specs.Tokens.{all_tokens}
use Rattle.json_text.proofs.text.JsonText.parts.Given as goal

abbrev pub invariant-loop-part : goal.invariant-loop-part
invariant-loop-part g l = l.self ≡ l.initial.self ++ all_tokens (map g.X.AsJson.json (take l.part-index l.parts))
