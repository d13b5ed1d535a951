-- The tests of an image, of its format and of the room for it pass exactly where the facts of specs/Formed hold; and what the reader
-- and loading come to for an image that is accepted.
use mathlib.Core.Path.{◌≡◌, refl}
use mathlib.Core.Bool.{Bool, true, false, ◌||◌, ◌&&◌}
use mathlib.Core.Logic.{inl, inr}
use mathlib.Core.List.{List}
use Prim.Native.Nat.{ℕ, ◌+◌}
use lib.Dec.{eqb, leb}
use lib.ListN.{length}
use borrow.Author.Tests.{leb-true, eqb-true, le-leb, eq-eqb}
use Rattle.std.specs.Prelude.{Ok, Err}
use Rattle.model.specs.State.{Memory}
use Rattle.model.specs.Answers.{verdict_numbers, Verdict}
use Rattle.model.specs.Calls.{unless}
use Rattle.model.specs.Image.{ptl_of, frames_of, known, frames_right, well_formed, image_verdict, image_by, image_call, meant, least_main_pages, room, load_verdict, load_by, load_call}
use Rattle.model.specs.declared.Refusal.TheVariants.{Edition, Format, Room}
use Rattle.laws.specs.Formed.{Known, SomeFrames, Formed, Roomy, Accepted}
use Rattle.laws.proofs.Choice.{and_left, and_right, and_both, or_left, or_right, every_at, every_from, pass, pass_none, pass_more}
use Rattle.laws.proofs.Granted.{granted, unless_granted}

-- ---- tests and facts
-- "Frames is 2 to 32, or 0"
module _ (n : ℕ) where
  pub some_frames : frames_right n ≡ true → SomeFrames n
  some_frames e = pick (eqb n 0) refl e
    where
      pick : (c : Bool) → eqb n 0 ≡ c → (c || leb 2 n && leb n 32) ≡ true → SomeFrames n
      pick true q r = inl (eqb-true n 0 q)
      pick false q r = inr (leb-true 2 n (and_left (leb 2 n) _ r), leb-true n 32 (and_right (leb 2 n) _ r))

  frames_right_lem : SomeFrames n → frames_right n ≡ true
  frames_right_lem (inl q) = or_left _ _ (eq-eqb n 0 q)
  frames_right_lem (inr q) = or_right (eqb n 0) _ (and_both _ _ (le-leb 2 n q.0) (le-leb n 32 q.1))

  pub least_pages : SomeFrames n → least_main_pages n ≡ 1 + meant n
  unfolding least_main_pages
  least_pages h = rw (frames_right_lem h)

module _ (l : List ℕ) where
  pub known_of : known l ≡ true → Known l
  unfolding known
  known_of e = record { long = leb-true _ _ (and_left _ _ e); edition = eqb-true _ _ (and_right (leb 24 (length l)) _ e) }

  is_known : Known l → known l ≡ true
  unfolding known
  is_known k = and_both _ _ (le-leb _ _ k.long) (eq-eqb _ _ k.edition)

  pub formed_of : well_formed l ≡ true → Formed l
  unfolding well_formed
  formed_of e = record {
    ptl_least = leb-true _ _ (pass _ e 0);
    ptl_most = leb-true _ _ (pass _ e 1);
    to_rights = eqb-true _ _ (pass _ e 2);
    to_pages = eqb-true _ _ (pass _ e 3);
    within = leb-true _ _ (pass _ e 4);
    label_most = leb-true _ _ (pass _ e 5);
    rights_most = λ x q. leb-true _ _ (every_at (ptl_of l) _ (pass _ e 6) x q);
    start_aligned = eqb-true _ _ (pass _ e 7);
    frames_known = some_frames (frames_of l) (pass _ e 8);
  }

  pub well_formed_of : Formed l → well_formed l ≡ true
  unfolding well_formed
  well_formed_of f =
      pass_more _ _ (le-leb _ _ f.ptl_least) (pass_more _ _ (le-leb _ _ f.ptl_most)
      (pass_more _ _ (eq-eqb _ _ f.to_rights) (pass_more _ _ (eq-eqb _ _ f.to_pages)
      (pass_more _ _ (le-leb _ _ f.within) (pass_more _ _ (le-leb _ _ f.label_most)
      (pass_more _ _ (every_from (ptl_of l) _ (λ x q. le-leb _ _ (f.rights_most x q)))
      (pass_more _ _ (eq-eqb _ _ f.start_aligned) (pass_more _ _ (frames_right_lem (frames_of l) f.frames_known) pass_none))))))))

module _ (frames ptl main_length swap_length : ℕ) where
  pub roomy_of : room frames ptl main_length swap_length ≡ true → Roomy frames ptl main_length swap_length
  unfolding room
  roomy_of e = record {
    whole = eqb-true _ _ (pass _ e 0);
    pages_least = leb-true _ _ (pass _ e 1);
    pages_most = leb-true _ _ (pass _ e 2);
    frames_in = leb-true _ _ (pass _ e 3);
    swap_long = eqb-true _ _ (pass _ e 4);
  }

  pub room_of : Roomy frames ptl main_length swap_length → room frames ptl main_length swap_length ≡ true
  unfolding room
  room_of r =
      pass_more _ _ (eq-eqb _ _ r.whole) (pass_more _ _ (le-leb _ _ r.pages_least) (pass_more _ _ (le-leb _ _ r.pages_most)
      (pass_more _ _ (le-leb _ _ r.frames_in) (pass_more _ _ (eq-eqb _ _ r.swap_long) pass_none))))

-- ---- the verdicts
module _ (l : List ℕ) where
  pub image_facts : (after : Verdict) → image_verdict l after ≡ Ok tt → Known l × Formed l × (after ≡ Ok tt)
  unfolding image_verdict
  image_facts after e =
      let k = unless_granted (known l) Edition (unless (well_formed l) Format after) e in
      let w = unless_granted (well_formed l) Format after k.1 in
      (known_of l k.0, formed_of l w.0, w.1)

  -- an image that is known and well formed leaves the verdict to what comes after
  pub image_onward : (after : Verdict) → Known l → Formed l → image_verdict l after ≡ after
  unfolding image_verdict
  image_onward after k f = rw (is_known l k, well_formed_of l f)

  -- ---- the reader
  pub read_facts : (image_call l).numbers.verdict.refused ≡ 0 → Known l × Formed l
  unfolding image_call
  read_facts e = let t = image_facts (Ok tt) (granted _ (numbers (image_verdict l (Ok tt)) e)) in (t.0, t.1)
    where
      numbers : (v : Verdict) → (image_by v l).numbers.verdict.refused ≡ 0 → (verdict_numbers v).refused ≡ 0
      numbers (Ok tt) q = refl
      numbers (Err r) q = q

  pub read_accepted : Known l → Formed l → image_call l ≡ image_by (Ok tt) l
  unfolding image_call
  read_accepted k f = rw (image_onward (Ok tt) k f)

  -- ---- loading
  module _ (m : Memory) where
    pub load_facts : (load_call l m).verdict.refused ≡ 0 → Accepted l m
    unfolding load_call load_verdict
    load_facts e =
        let t = image_facts _ (granted _ (number (load_verdict l m) e)) in
        let r = unless_granted (room (frames_of l) (ptl_of l) (length m.main) (length m.swap)) Room (Ok tt) t.2 in
        record { known = t.0; formed = t.1; roomy = roomy_of (frames_of l) (ptl_of l) (length m.main) (length m.swap) r.0 }
      where
        number : (v : Verdict) → (load_by v l m).verdict.refused ≡ 0 → (verdict_numbers v).refused ≡ 0
        number (Ok tt) q = refl
        number (Err r) q = q

    pub load_accepted : Accepted l m → load_call l m ≡ load_by (Ok tt) l m
    unfolding load_call load_verdict
    load_accepted a = rw (image_onward _ a.known a.formed, room_of _ _ _ _ a.roomy)
