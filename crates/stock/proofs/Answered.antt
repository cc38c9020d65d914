-- What an admission answers, case by case in the fixed order. Assumes nothing.
use mathlib.Core.Path.{◌≡◌, refl}
use mathlib.Core.Bool.{true, false}
use mathlib.Core.List.{List}
use Prim.Native.Nat.{ℕ, ◌≤◌, ◌<◌}
use lib.Dec.{eqb}
use lib.ListN.{length}
use borrow.Author.Tests.{le-leb, lt-leb, lt-ltb, le-ltb}
use Rattle.hall.specs.File.{refusal, or_else, hall_refusal}
use Rattle.stock.specs.Site.{Site, sound, site_refusal, admit_refusal}

module _ (s : Site) (bs c : List ℕ) where
  pub damaged_answer : sound s ≡ false → admit_refusal s bs c ≡ refusal 12 0
  unfolding admit_refusal site_refusal or_else refusal
  damaged_answer e = rw e refl

  module _ (good : sound s ≡ true) where
    pub hall_answer : eqb (hall_refusal bs).number 0 ≡ false → admit_refusal s bs c ≡ hall_refusal bs
    unfolding admit_refusal site_refusal or_else refusal
    hall_answer e = rw (good, e) refl

    module _ (fine : eqb (hall_refusal bs).number 0 ≡ true) where
      pub full_answer : 8 ≤ length s.plans → admit_refusal s bs c ≡ refusal 13 0
      unfolding admit_refusal site_refusal or_else refusal
      full_answer full = rw (good, fine, le-leb 8 (length s.plans) full) refl

      module _ (room : length s.plans < 8) where
        pub short_answer : s.left < length c → admit_refusal s bs c ≡ refusal 14 0
        unfolding admit_refusal site_refusal or_else refusal
        short_answer short = rw (good, fine, lt-leb 8 (length s.plans) room, lt-ltb s.left (length c) short) refl

        pub enough_answer : length c ≤ s.left → admit_refusal s bs c ≡ refusal 0 0
        unfolding admit_refusal site_refusal or_else refusal
        enough_answer enough = rw (good, fine, lt-leb 8 (length s.plans) room, le-ltb s.left (length c) enough) refl
