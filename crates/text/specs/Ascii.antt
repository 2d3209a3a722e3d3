-- Text as bytes.
use Rattle.std.specs.Prelude.{ℕ, List, [], ◌∷◌}
use Prim.Native.Char.{code}
use Prim.Native.String.{String}
use Prim.Native.String.{[] as none, ◌∷◌ as ◌then◌}

-- the codes of the characters of a text
abbrev pub ascii : String → List ℕ
ascii none = []
ascii (c then text) = code c ∷ ascii text
