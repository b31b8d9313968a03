-- Text as bytes: words, decimal numbers and lines. Assumes nothing.
use Rattle.std.specs.Prelude.{true, false, List, [], ◌∷◌, ◌++◌, ℕ, zero, suc, ◌+◌, ◌/◌, ◌%◌, ltb}
use Prim.Native.Char.{code}
use Prim.Native.String.{String}
use Prim.Native.String as text
use Rattle.rules.specs.Names.{Bytes}

-- a text as bytes
unfoldable pub ascii : String → Bytes
ascii text.[] = []
ascii (text.◌∷◌ c s) = code c ∷ ascii s

-- a number in decimal; it has no more digits than its value and one
unfoldable pub decimal_to : ℕ → ℕ → Bytes
decimal_to zero n = []
decimal_to (suc k) n = elim (ltb n 10) [ true ↦ (code "0" + n) ∷ [] | false ↦ decimal_to k (n / 10) ++ ((code "0" + n % 10) ∷ []) ]

unfoldable pub decimal : ℕ → Bytes
decimal n = decimal_to (suc n) n

-- fields are separated by one space, and a line ends with a newline
unfoldable pub fields_text : List Bytes → Bytes
fields_text [] = ascii "\n"
fields_text (f ∷ fs) = ascii " " ++ (f ++ fields_text fs)

unfoldable pub line : Bytes → List Bytes → Bytes
line name fields = name ++ fields_text fields
