-- No claim rests on this file: it serves the code.
-- Text in a buffer: from a place on it is the text, and everything else is as it was.
use Rattle.std.specs.Prelude.{ℕ, List, [], ◌∷◌, length}
use Prim.Native.Char.{code}
use Prim.Native.String as Quoted
use Rattle.lists.specs.Arranged.{replaced}

unfoldable pub placed : List ℕ → ℕ → List ℕ → List ℕ
placed out at s = replaced out at (length s) s

-- a quoted text as bytes, one a character
abbrev pub ascii : Quoted.String → List ℕ
ascii Quoted.[] = []
ascii (Quoted.◌∷◌ c s) = code c ∷ ascii s
