-- The starred halls of document 01, halls with loops, and halls with fixed rows: what is expected of each, what that says, and a test for it. Assumes nothing: these are definitions.
use Rattle.std.specs.Prelude.{◌≡◌, Bool, true, false, ◌&&◌, not, List, [], ◌∷◌, ℕ, eqb, ℤ, pos, negsuc}
use Rattle.std.proofs.Math.Option.{some}
use Rattle.laws.specs.Lists.{all_of, Each, same_list}
use Rattle.junctions.specs.Sets.{with_junction}
use Rattle.hall.specs.Hall.{Hall, hall, row_of, fixed_row, is_choice, joins, missed}
use Rattle.hall.specs.File.{hall_in, hall_refusal, refusal}
use Rattle.hall.specs.Plan.{First, Cut, cut, Beside, total, goes_before, levels}
use Rattle.joining.specs.Promise.{all_bytes, accepted}
use Rattle.starred.specs.Layout.{file_of}
use Rattle.starred.specs.Trying.{is_first, is_beside, same_hall, same_refusal, same_signed, is_some}

-- what is expected of a hall
pub data Expected : Type 0 where
  -- a refusal, with its number and its row or 0
  refused : (number place : ℕ) → Expected
  -- a plan: the rows it opens, its total, its cuts and its levels
  opens : (choice : List ℕ) → (total : ℕ) → List Cut → List ℤ → Expected
  -- two joining choices of one total, of which the second comes later
  ties : (choice later : List ℕ) → Expected
  -- a choice that misses a shore
  misses : (choice : List ℕ) → (shore : ℕ) → Expected
  -- rows that are no choice
  unchosen : (rows : List ℕ) → Expected

-- A CASE: a file, the hall that it shows, and what is expected
pub record Case : Type 0 where
  pub file : List ℕ
  pub shows : Hall
  pub expected : Expected

-- what an accepted file says
pub record Accepted (bs : List ℕ) : Type 0 where
  pub unrefused : hall_refusal bs ≡ refusal 0 0
  pub accepts : accepted bs ≡ true

-- what a plan says
pub record PlannedAs (h : Hall) (c : List ℕ) (t : ℕ) (ks : List Cut) (ls : List ℤ) : Type 0 where
  pub first : First h c
  pub costs : total h c ≡ t
  pub beside : Beside h c ks
  pub levelled : levels h ks ≡ ls

-- what a tie says
pub record Ties (h : Hall) (c d : List ℕ) : Type 0 where
  pub choice : is_choice h c ≡ true
  pub joining : joins h c ≡ true
  pub choice_later : is_choice h d ≡ true
  pub joining_later : joins h d ≡ true
  pub same_total : total h c ≡ total h d
  pub later : goes_before h c d ≡ true

-- what a missed shore says
pub record Misses (h : Hall) (c : List ℕ) (s : ℕ) : Type 0 where
  pub choice : is_choice h c ≡ true
  pub shore : missed h c ≡ some s

-- the file is refused so, or it is accepted and what is expected holds of its hall
unfoldable pub Answers : (file : List ℕ) → Expected → Type 0
Answers bs (refused n p) = hall_refusal bs ≡ refusal n p
Answers bs (opens c t ks ls) = Accepted bs × PlannedAs (hall_in bs) c t ks ls
Answers bs (ties c d) = Accepted bs × Ties (hall_in bs) c d
Answers bs (misses c s) = Accepted bs × Misses (hall_in bs) c s
Answers bs (unchosen c) = Accepted bs × (is_choice (hall_in bs) c ≡ false)

-- WHAT A CASE SAYS: the file is bytes, shows the hall, and answers as expected
pub record Says (k : Case) : Type 0 where
  pub bytes : all_bytes k.file ≡ true
  pub shown : hall_in k.file ≡ k.shows
  pub answers : Answers k.file k.expected

-- the tests of an accepted file, in order
unfoldable pub accepted_tests : (file : List ℕ) → List Bool
accepted_tests bs = same_refusal (hall_refusal bs) (refusal 0 0) ∷ accepted bs ∷ []

-- the tests of a plan
unfoldable pub opens_tests : Hall → (c : List ℕ) → (t : ℕ) → List Cut → List ℤ → List Bool
opens_tests h c t ks ls = is_first h c ∷ eqb (total h c) t ∷ is_beside h c ks ∷ same_list same_signed (levels h ks) ls ∷ []

-- the tests of a tie
unfoldable pub ties_tests : Hall → (c d : List ℕ) → List Bool
ties_tests h c d = is_choice h c ∷ joins h c ∷ is_choice h d ∷ joins h d ∷ eqb (total h c) (total h d) ∷ goes_before h c d ∷ []

-- the tests of a missed shore
unfoldable pub misses_tests : Hall → (c : List ℕ) → (s : ℕ) → List Bool
misses_tests h c s = is_choice h c ∷ is_some s (missed h c) ∷ []

-- the test of an answer
unfoldable pub answered : (file : List ℕ) → Expected → Bool
answered bs (refused n p) = same_refusal (hall_refusal bs) (refusal n p)
answered bs (opens c t ks ls) = all_of (accepted_tests bs) && all_of (opens_tests (hall_in bs) c t ks ls)
answered bs (ties c d) = all_of (accepted_tests bs) && all_of (ties_tests (hall_in bs) c d)
answered bs (misses c s) = all_of (accepted_tests bs) && all_of (misses_tests (hall_in bs) c s)
answered bs (unchosen c) = all_of (accepted_tests bs) && not (is_choice (hall_in bs) c)

-- the tests of a case
unfoldable pub case_tests : Case → List Bool
case_tests k = all_bytes k.file ∷ same_hall (hall_in k.file) k.shows ∷ answered k.file k.expected ∷ []

-- the test of a case
unfoldable pub holds_of : Case → Bool
holds_of k = all_of (case_tests k)

-- a case by its hall, in the file that is laid out for it
unfoldable pub drawn : Hall → Expected → Case
drawn h e = record { file = file_of h; shows = h; expected = e }

-- the set of the listed junctions
unfoldable pub junctions_of : List ℕ → ℕ
junctions_of [] = 0
junctions_of (j ∷ js) = with_junction j (junctions_of js)

-- the printed hall
unfoldable pub printed_hall : Hall
printed_hall = hall 3 (row_of 1 2 3 ∷ row_of 2 3 1 ∷ row_of 1 3 4 ∷ [])

-- the file that document 01 prints for it, byte for byte
unfoldable pub printed_file : List ℕ
printed_file =
    3 ∷ 0 ∷ 1 ∷ 0 ∷ 12 ∷ 0 ∷ 0 ∷ 0 ∷ 24 ∷ 0 ∷ 0 ∷ 0 ∷ 1 ∷ 0 ∷ 2 ∷ 0 ∷ 3 ∷ 0 ∷ 0 ∷ 0 ∷ 2 ∷ 0 ∷ 3 ∷ 0 ∷ 1 ∷ 0 ∷ 0 ∷ 0 ∷ 1 ∷ 0 ∷ 3 ∷ 0 ∷ 4 ∷ 0 ∷ 0 ∷ 0 ∷ []

-- a case of the printed hall, in that file
unfoldable pub printed : Expected → Case
printed e = record { file = printed_file; shows = printed_hall; expected = e }

-- four rows that each enter 2 or 4
unfoldable pub square : Hall
square = hall 4 (row_of 1 2 1 ∷ row_of 1 4 1 ∷ row_of 3 2 1 ∷ row_of 3 4 1 ∷ [])

-- a fixed row beside an ordinary one
unfoldable pub half_open : Hall
half_open = hall 2 (fixed_row 1 2 ∷ row_of 1 2 7 ∷ [])

-- THE STARRED HALLS, in the order of document 01; negsuc 6 is −7
unfoldable pub starred : List Case
starred =
    drawn (hall 1 []) (opens [] 0 [] (pos 0 ∷ []))
    ∷ drawn (hall 2 []) (refused 9 0)
    ∷ drawn (hall 2 (row_of 1 2 7 ∷ [])) (opens (1 ∷ []) 7 (cut (junctions_of (2 ∷ [])) 7 ∷ []) (pos 0 ∷ pos 7 ∷ []))
    ∷ drawn (hall 2 (row_of 2 1 7 ∷ [])) (opens (1 ∷ []) 7 (cut (junctions_of (1 ∷ [])) 7 ∷ []) (pos 0 ∷ negsuc 6 ∷ []))
    ∷ drawn (hall 2 (row_of 1 2 0 ∷ [])) (opens (1 ∷ []) 0 [] (pos 0 ∷ pos 0 ∷ []))
    ∷ drawn (hall 2 (row_of 1 2 5 ∷ row_of 2 1 5 ∷ [])) (opens [] 0 [] (pos 0 ∷ pos 0 ∷ []))
    ∷ drawn (hall 2 (row_of 1 2 5 ∷ row_of 1 2 5 ∷ [])) (opens (1 ∷ []) 5 (cut (junctions_of (2 ∷ [])) 5 ∷ []) (pos 0 ∷ pos 5 ∷ []))
    ∷ drawn (hall 3 (row_of 1 2 2 ∷ row_of 2 3 3 ∷ []))
    (opens (1 ∷ 2 ∷ []) 5 (cut (junctions_of (3 ∷ [])) 3 ∷ cut (junctions_of (2 ∷ 3 ∷ [])) 2 ∷ []) (pos 0 ∷ pos 2 ∷ pos 5 ∷ []))
    ∷ printed (opens (3 ∷ []) 4 (cut (junctions_of (3 ∷ [])) 1 ∷ cut (junctions_of (2 ∷ 3 ∷ [])) 3 ∷ []) (pos 0 ∷ pos 3 ∷ pos 4 ∷ []))
    ∷ printed (ties (3 ∷ []) (1 ∷ 2 ∷ []))
    ∷ drawn square (opens (1 ∷ 4 ∷ []) 2 (cut (junctions_of (2 ∷ [])) 1 ∷ cut (junctions_of (4 ∷ [])) 1 ∷ []) (pos 0 ∷ pos 1 ∷ pos 0 ∷ pos 1 ∷ []))
    ∷ drawn square (ties (1 ∷ 4 ∷ []) (2 ∷ 3 ∷ []))
    ∷ drawn (hall 4 (row_of 1 2 1 ∷ row_of 2 3 1 ∷ row_of 3 4 1 ∷ [])) (misses (1 ∷ 3 ∷ []) (junctions_of (3 ∷ 4 ∷ [])))
    ∷ drawn (hall 2 (row_of 3 3 0 ∷ [])) (refused 6 1)
    ∷ []

-- HALLS WITH LOOPS, which document 01 turned back with 7: read, numbered, checked by 6 and 8, opened by no plan, idle in a choice
unfoldable pub looped : List Case
looped =
    drawn (hall 1 (row_of 1 1 0 ∷ [])) (opens [] 0 [] (pos 0 ∷ []))
    ∷ drawn (hall 1 (row_of 1 1 5 ∷ row_of 1 1 0 ∷ [])) (opens [] 0 [] (pos 0 ∷ []))
    ∷ drawn (hall 2 (row_of 1 2 7 ∷ row_of 2 2 1 ∷ [])) (opens (1 ∷ []) 7 (cut (junctions_of (2 ∷ [])) 7 ∷ []) (pos 0 ∷ pos 7 ∷ []))
    ∷ drawn (hall 2 (row_of 1 1 0 ∷ row_of 1 2 7 ∷ [])) (opens (2 ∷ []) 7 (cut (junctions_of (2 ∷ [])) 7 ∷ []) (pos 0 ∷ pos 7 ∷ []))
    ∷ drawn (hall 2 (row_of 1 1 0 ∷ row_of 1 2 7 ∷ [])) (ties (2 ∷ []) (1 ∷ 2 ∷ []))
    ∷ drawn (hall 3 (row_of 1 2 1 ∷ row_of 2 2 0 ∷ row_of 2 3 1 ∷ [])) (misses (1 ∷ 2 ∷ []) (junctions_of (3 ∷ [])))
    ∷ drawn (hall 2 (row_of 1 1 0 ∷ row_of 2 2 0 ∷ [])) (refused 9 0)
    ∷ drawn (hall 2 (row_of 1 1 0 ∷ row_of 2 2 1000001 ∷ [])) (refused 8 2)
    ∷ drawn (hall 2 (row_of 1 1 0 ∷ row_of 3 3 1000001 ∷ [])) (refused 6 2)
    ∷ []

-- HALLS WITH FIXED ROWS, opened by no plan: read from FFFFFFFF hexadecimal, checked by 6, loaded without limit, refused with 15 where a directed cut has no other rows
unfoldable pub fixed : List Case
fixed =
    drawn (hall 1 (fixed_row 1 1 ∷ [])) (opens [] 0 [] (pos 0 ∷ []))
    ∷ drawn (hall 2 (fixed_row 1 2 ∷ fixed_row 2 1 ∷ [])) (opens [] 0 [] (pos 0 ∷ pos 0 ∷ []))
    ∷ drawn (hall 2 (fixed_row 1 2 ∷ [])) (refused 15 0)
    ∷ drawn (hall 3 (row_of 1 2 1 ∷ fixed_row 2 3 ∷ fixed_row 2 3 ∷ [])) (refused 15 0)
    ∷ drawn (hall 3 (fixed_row 1 2 ∷ [])) (refused 9 0)
    ∷ drawn half_open (opens (2 ∷ []) 7 (cut (junctions_of (2 ∷ [])) 7 ∷ []) (pos 0 ∷ pos 7 ∷ []))
    ∷ drawn half_open (unchosen (1 ∷ []))
    ∷ drawn half_open (unchosen (1 ∷ 2 ∷ []))
    ∷ drawn half_open (misses [] (junctions_of (2 ∷ [])))
    ∷ drawn (hall 3 (fixed_row 1 2 ∷ row_of 2 3 1 ∷ row_of 1 3 4 ∷ [])) (opens (3 ∷ []) 4 (cut (junctions_of (3 ∷ [])) 1 ∷ cut (junctions_of (2 ∷ 3 ∷ [])) 3 ∷ []) (pos 0 ∷ pos 3 ∷ pos 4 ∷ []))
    ∷ drawn (hall 2 (row_of 1 2 1000000 ∷ [])) (opens (1 ∷ []) 1000000 (cut (junctions_of (2 ∷ [])) 1000000 ∷ []) (pos 0 ∷ pos 1000000 ∷ []))
    ∷ drawn (hall 2 (row_of 1 2 1000001 ∷ [])) (refused 8 1)
    ∷ drawn (hall 2 (row_of 1 2 4294967294 ∷ [])) (refused 8 1)
    ∷ drawn (hall 2 (fixed_row 1 2 ∷ fixed_row 3 1 ∷ [])) (refused 6 2)
    ∷ []

-- THE STARRED HALLS HOLD: each says what is expected of it
unfoldable pub StarredHold : Type 0
StarredHold = Each Says starred

-- THE HALLS WITH LOOPS HOLD: so does each of these
unfoldable pub LoopedHold : Type 0
LoopedHold = Each Says looped

-- THE HALLS WITH FIXED ROWS HOLD: and each of these
unfoldable pub FixedHold : Type 0
FixedHold = Each Says fixed
