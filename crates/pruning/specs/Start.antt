-- What a start keeps: flags among others. Assumes nothing: this is a definition.
use Rattle.std.specs.Prelude.{◌≡◌, Bool, true, false, List, ℕ, get_or}

-- every row of the first flags is one of the second
abbrev pub Among : (flags others : List Bool) → Type 0
Among flags others = (k : ℕ) → get_or flags k false ≡ true → get_or others k false ≡ true
