-- Each reply of the call says what `FiguresSays` asks. Assumes nothing.
use mathlib.Core.Path.{◌≡◌, refl, sym, ◌∙◌}
use mathlib.Core.List.{List}
use Prim.Native.Nat.{ℕ, ◌≤◌}
use lib.ListN.{length}
use Rattle.std.specs.Prelude.{Result, Ok, Err}
use Rattle.hall.specs.File.{hall_in, hall_refusal, refusal}
use Rattle.refusals.specs.declared.Kind.{Kind}
use Rattle.refusals.specs.declared.Kind.TheVariants.{ListShort}
use Rattle.refusals.specs.Kinds.{refusal_of, answered, figure}
use Rattle.opening.specs.Choice.{room_for}
use Rattle.opening.proofs.Refused.{of_refused}
use Rattle.opening.proofs.Room.{room_first, room_enough}
use Rattle.withwithout.specs.Figures.{FiguresAs, FiguresSays}
use Rattle.withwithout.specs.declared.Filled.{Filled}

module _ (bs a b : List ℕ) where
  -- what the call says of a reply
  abbrev pub Says : Result Filled Kind → (x y : List ℕ) → Type 0
  Says r x y = FiguresSays bs (answered r) (figure (λ (p : Filled). p.rows) r) a x b y

  -- no list is too short
  abbrev Room : Type 0
  Room = (256 ≤ length a) × (256 ≤ length b)

  says_err : (k : Kind) → refusal_of k ≡ room_for 256 (length a) (room_for 256 (length b) (hall_refusal bs)) → Says (Err k) a b
  unfolding FiguresSays FiguresAs answered figure
  says_err k e = (e, of_refused (λ n. FiguresAs n (hall_in bs) 0 a a b b) (λ n. (refl, refl, refl)) k (refusal_of k) refl)

  pub says_short : (Room → ⊥) → Says (Err ListShort) a b
  unfolding refusal_of
  says_short cramped =
      says_err ListShort
      (sym (room_first 256 (length a) (room_for 256 (length b) (hall_refusal bs))
      (λ fits_a. room_first 256 (length b) (hall_refusal bs) (λ fits_b. absurd (cramped (fits_a, fits_b))))))

  module _ (room : Room) where
    past_room : room_for 256 (length a) (room_for 256 (length b) (hall_refusal bs)) ≡ hall_refusal bs
    past_room = room_enough 256 (length a) (room_for 256 (length b) (hall_refusal bs)) room.0 ∙ room_enough 256 (length b) (hall_refusal bs) room.1

    pub says_refused : (k : Kind) → refusal_of k ≡ hall_refusal bs → Says (Err k) a b
    says_refused k e = says_err k (e ∙ sym past_room)

    pub says_figures : refusal 0 0 ≡ hall_refusal bs → (r : Filled) (x y : List ℕ) → FiguresAs 0 (hall_in bs) r.rows a x b y → Says (Ok r) x y
    unfolding FiguresSays answered figure refusal
    says_figures fine r x y figures = (fine ∙ sym past_room, figures)
