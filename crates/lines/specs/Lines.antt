-- Numbers, levels, sets and lines as bytes. Assumes nothing: these are definitions.
use Rattle.std.specs.Prelude.{cond, List, [], ◌∷◌, ◌++◌, ℕ, zero, suc, ◌+◌, ◌/◌, ◌%◌, ltb, ℤ, pos, negsuc}
use Rattle.junctions.specs.Sets.{holds}
use Rattle.hall.specs.Plan.{Cut}

-- the texts one after the other
unfoldable pub text : List (List ℕ) → List ℕ
text [] = []
text (t ∷ ts) = t ++ text ts

-- the bytes of a space, of a line's end, of a minus and of the digit 0
abbrev pub space : ℕ
space = 32

abbrev pub newline : ℕ
newline = 10

abbrev pub minus : ℕ
minus = 45

abbrev pub digit_zero : ℕ
digit_zero = 48

-- the decimal digits of n, the most significant first; `most` limits how many
unfoldable pub digits : (most n : ℕ) → List ℕ
digits zero n = []
digits (suc k) n = cond (ltb n 10) ((digit_zero + n) ∷ []) (digits k (n / 10) ++ (digit_zero + n % 10) ∷ [])

-- A NUMBER in decimal, without leading zeros
unfoldable pub decimal : ℕ → List ℕ
decimal n = digits (suc n) n

-- A LEVEL: below 0 with a minus before it
unfoldable pub level_text : ℤ → List ℕ
level_text (pos n) = decimal n
level_text (negsuc n) = minus ∷ decimal (suc n)

-- a number with a space before it
unfoldable pub item : ℕ → List ℕ
item n = space ∷ decimal n

-- one byte
abbrev pub one : ℕ → List ℕ
one b = b ∷ []

-- a line of a word and one number
unfoldable pub number_line : (word : List ℕ) → (a : ℕ) → List ℕ
number_line w a = text (w ∷ decimal a ∷ one newline ∷ [])

-- a line of a word and two numbers
unfoldable pub pair_line : (word : List ℕ) → (a b : ℕ) → List ℕ
pair_line w a b = text (w ∷ decimal a ∷ item b ∷ one newline ∷ [])

-- a line of four numbers
unfoldable pub four_line : (a b c d : ℕ) → List ℕ
four_line a b c d = text (decimal a ∷ item b ∷ item c ∷ item d ∷ one newline ∷ [])

-- of the next `left` junctions from j on, those of the set, a space before each
unfoldable pub set_text : (left j : ℕ) → (set : ℕ) → List ℕ
set_text zero j s = []
set_text (suc k) j s = cond (holds s j) (item j ++ set_text k (suc j) s) (set_text k (suc j) s)

-- THE LINE OF A CUT: its weight and its shore's junctions of 1 to n
unfoldable pub cut_line : (n : ℕ) → Cut → List ℕ
cut_line n k = text (decimal k.weight ∷ set_text n 1 k.shore ∷ one newline ∷ [])

-- a level with a space before it
unfoldable pub level_item : ℤ → List ℕ
level_item l = space ∷ level_text l
