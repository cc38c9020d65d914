-- Families of sets that uncross, counts that are modular on them, separation by sets of count 1, and swaps. Assumes nothing: these are definitions.
use Rattle.std.specs.Prelude.{◌≡◌, Bool, true, false, ◌&&◌, ◌||◌, List, [], ◌∷◌, ℕ, ◌+◌, ◌-◌, ◌≤◌, ◌<◌}
use Rattle.laws.specs.Finite.{one_if}
use Rattle.hall.specs.Hall.{Hall}

-- two sets that share a junction of the hall and both miss one
pub record Crossed {S : Type 0} (has : S → ℕ → Bool) (In : ℕ → Type 0) (X Y : S) : Type 0 where
  pub shared : ℕ
  pub shared_in : In shared
  pub left_has : has X shared ≡ true
  pub right_has : has Y shared ≡ true
  pub missed : ℕ
  pub missed_in : In missed
  pub left_lacks : has X missed ≡ false
  pub right_lacks : has Y missed ≡ false

-- A CROSSING FAMILY: of any two members that share a junction and both miss one, the meet and the join are members
pub record CrossingFamily {S : Type 0} (has : S → ℕ → Bool) (In : ℕ → Type 0) (Fam : S → Type 0) : Type 0 where
  pub meet : S → S → S
  pub join : S → S → S
  pub meet_has : (X Y : S) (j : ℕ) → has (meet X Y) j ≡ (has X j && has Y j)
  pub join_has : (X Y : S) (j : ℕ) → has (join X Y) j ≡ (has X j || has Y j)
  pub meet_in : (X Y : S) → Fam X → Fam Y → Crossed has In X Y → Fam (meet X Y)
  pub join_in : (X Y : S) → Fam X → Fam Y → Crossed has In X Y → Fam (join X Y)

-- A COUNT on a crossing family: at least 1 on each member, and modular
pub record Count {S : Type 0} {has : S → ℕ → Bool} {In : ℕ → Type 0} {Fam : S → Type 0} (c : CrossingFamily has In Fam) (d : S → ℕ) : Type 0 where
  pub least : (X : S) → Fam X → 1 ≤ d X
  pub modular : (X Y : S) → Fam X → Fam Y → Crossed has In X Y → d X + d Y ≡ d (c.meet X Y) + d (c.join X Y)

-- SEPARATED: some member of count 1 has v and not u
pub record Separated {S : Type 0} (has : S → ℕ → Bool) (Fam : S → Type 0) (d : S → ℕ) (v u : ℕ) : Type 0 where
  pub set : S
  pub member : Fam set
  pub one : d set ≡ 1
  pub has_it : has set v ≡ true
  pub lacks_it : has set u ≡ false

-- A SWAP takes 1 from the count of each set that has `out`, and adds 1 to that of each set that has `into`
pub record Swap : Type 0 where
  pub out : ℕ
  pub into : ℕ

-- how many swaps take from a set
unfoldable pub taken : List Swap → (set : ℕ → Bool) → ℕ
taken [] f = 0
taken (s ∷ ss) f = one_if (f s.out) + taken ss f

-- how many swaps add to a set
unfoldable pub added : List Swap → (set : ℕ → Bool) → ℕ
added [] f = 0
added (s ∷ ss) f = one_if (f s.into) + added ss f

-- the count after one swap
unfoldable pub swapped : {S : Type 0} → (has : S → ℕ → Bool) → Swap → (d : S → ℕ) → S → ℕ
swapped has s d X = d X + one_if (has X s.into) - one_if (has X s.out)

-- a swap within the hall and at one potential, of junctions that are not separated
pub record Swappable (In : ℕ → Type 0) (Sepd : (v u : ℕ) → Type 0) (p : ℕ → ℕ) (s : Swap) : Type 0 where
  pub out_in : In s.out
  pub into_in : In s.into
  pub level : p s.out ≡ p s.into
  pub close : Sepd s.out s.into → ⊥

-- a is separated from where the swaps lead at its own potential
unfoldable pub ApartFrom : (Sepd : (v u : ℕ) → Type 0) → (p : ℕ → ℕ) → (a : ℕ) → List Swap → Type 0
ApartFrom Sepd p a [] = Unit
ApartFrom Sepd p a (s ∷ ss) = (p a ≡ p s.into → Sepd a s.into) × ApartFrom Sepd p a ss

-- SWAPS THAT MAY BE MADE one after another: each swappable, and separated from the later ones
unfoldable pub Swaps : (In : ℕ → Type 0) → (Sepd : (v u : ℕ) → Type 0) → (p : ℕ → ℕ) → List Swap → Type 0
Swaps In Sepd p [] = Unit
Swaps In Sepd p (s ∷ ss) = Swappable In Sepd p s × ApartFrom Sepd p s.out ss × Swaps In Sepd p ss

-- a potential rises only where junctions are separated
unfoldable pub Rising : (In : ℕ → Type 0) → (Sepd : (v u : ℕ) → Type 0) → (p : ℕ → ℕ) → Type 0
Rising In Sepd p = (v u : ℕ) → In v → In u → p u < p v → Sepd v u

-- a junction of the hall
abbrev pub Inside : Hall → (j : ℕ) → Type 0
Inside h j = (1 ≤ j) × (j ≤ h.n)
