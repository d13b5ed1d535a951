-- The beginning: what loading leaves of the lent bytes, by its answer (`load_refused`, `load_granted`); what is begun with, at each way out
-- (`too_long`, `not_image`, `is_image`), and that what is lent then lies within the buffers.
use mathlib.Core.Path.{◌≡◌, refl, sym, ap, subst, ◌∙◌}
use mathlib.Core.Bool.{Bool, true, false}
use mathlib.Core.List.{List}
use Prim.Native.Nat.{ℕ, ◌*◌, ◌≤◌, ◌<◌}
use native.Mathlib.Omega.{arith}
use borrow.Author.Tests.{le-leb, lt-leb}
use lib.Dec.{eqb}
use lib.ListN.{length, take-append-drop}
use Rattle.std.specs.Prelude.{if◌then◌else◌, Ok, Err}
use Rattle.model.specs.Answers.{refusal_number, verdict_numbers, image_numbers, Verdict}
use Rattle.model.specs.Calls.{unless}
use Rattle.model.specs.Image.{ptl_of, start_of, frames_of, image_call}
use Rattle.model.specs.declared.Refusal.{Refusal}
use Rattle.model.specs.declared.Refusal.TheVariants.{Room}
use Rattle.model.specs.declared.Written.{Written}
use Rattle.laws.proofs.Granted.{refused, some_number}
use Rattle.image.proofs.Accepted.{read_image, read_refused}
use Rattle.text.specs.Text.{Appended}
use Rattle.answerlines.specs.Lines.{loaded_text}
use Rattle.talk.specs.Script.{Spoken, onward}
use Rattle.plainmodel.specs.State.{PlainState, plain_state}
use Rattle.plainmodel.specs.Load.{room, load_verdict, LoadOutcome, load_by, load_call, zero_plain}
use Rattle.plainmodel.specs.declared.Plain.{Plain}
use Rattle.plainsession.specs.Desk.{Desk, desk, standing, lent, handed_back, told_of, Tells}
use Rattle.plainsession.specs.Ready.{Lent}
use Rattle.plainsession.specs.Series.{turned_away, lent_for, loaded, begun, Read, TurnedAway}
use Rattle.plainsession.specs.declared.Told.{Told}

-- ---- loading, by its answer
-- "from loading, a record of zeros", and the lent bytes as they were
kept_by : (v : Verdict) (r : Refusal) (l bytes rights : List ℕ) → (load_by v l bytes rights).verdict.refused ≡ refusal_number r
    → (load_by v l bytes rights).state ≡ plain_state zero_plain bytes rights
kept_by (Ok tt) r l bytes rights e = refused r (sym e)
kept_by (Err q) r l bytes rights e = refl

kept : (r : Refusal) (l bytes rights : List ℕ) → (load_call l bytes rights).verdict.refused ≡ refusal_number r
    → (load_call l bytes rights).state ≡ plain_state zero_plain bytes rights
unfolding load_call
kept r l bytes rights e = kept_by (load_verdict l bytes rights) r l bytes rights e

-- code hands back a desk and says what stands at the beginning
abbrev TellsBack : List ℕ → List ℕ → Told → Desk → Spoken Desk → Type 0
TellsBack before after told d s = Tells before 0 after told d.memory d.rights s

module _ (file : List ℕ) (d : Desk) (v : Verdict) (p : PlainState)
    (e : record { verdict = verdict_numbers v; state = p } ≡ load_call file (lent d).bytes (lent d).rights) {before after : List ℕ} where
  into_refused : (r : Refusal) → v ≡ Err r → {told : Told} → TurnedAway (refusal_number r) before after told
      → TellsBack before after told (handed_back d p) (loaded d file)
  into_refused r k away =
      let g : record { verdict = verdict_numbers (Err r); state = p } ≡ load_call file (lent d).bytes (lent d).rights = rw k at e in
      let back : p ≡ plain_state zero_plain (lent d).bytes (lent d).rights =
      ap (λ (o : LoadOutcome). o.state) g
      ∙ kept r file (lent d).bytes (lent d).rights (sym (ap (λ (o : LoadOutcome). o.verdict.refused) g)) in
      rw (← g, some_number r, back, take-append-drop d.standing.memory d.memory, take-append-drop d.standing.rights d.rights)
      (away d.memory d.rights)

  into_granted : v ≡ Ok tt → (filled : ℕ) → Appended before 0 after filled (loaded_text (ptl_of file) (start_of file) (frames_of file))
      → TellsBack before after (told_of p.plain d.standing.memory d.standing.rights filled true) (handed_back d p) (loaded d file)
  into_granted k filled text =
      let g : record { verdict = verdict_numbers (Ok tt); state = p } ≡ load_call file (lent d).bytes (lent d).rights = rw k at e in
      rw (← g) (record { desk_is = refl; text = text; goes = refl })

-- the pages and rights lent are as many as were read
abbrev lent_to : ℕ → List ℕ → List ℕ → Desk
lent_to ptl memory rights = desk (standing zero_plain (4096 * ptl) ptl) memory rights

module _ {file : List ℕ} {w : Written} (read : Read file w) (memory rights : List ℕ) where
  as_read : {before after : List ℕ} {told : Told} (d : Desk) → TellsBack before after told d (loaded (lent_to w.ptl memory rights) file)
      → TellsBack before after told d (loaded (lent_for file memory rights) file)
  as_read {before} {after} {told} d t = subst (λ n. TellsBack before after told d (loaded (lent_to n memory rights) file)) read.ptl_is t

  module _ (v : Verdict) (m : Plain) {ys zs : List ℕ}
      (e : record { verdict = verdict_numbers v; state = plain_state m ys zs }
      ≡ load_call file (lent (lent_to w.ptl memory rights)).bytes (lent (lent_to w.ptl memory rights)).rights)
      {before after : List ℕ} where
    pub load_refused : (r : Refusal) → v ≡ Err r → {told : Told} → TurnedAway (refusal_number r) before after told
        → TellsBack before after told (handed_back (lent_to w.ptl memory rights) (plain_state m ys zs)) (loaded (lent_for file memory rights) file)
    load_refused r k away =
        let d : Desk = lent_to w.ptl memory rights in
        as_read (handed_back d (plain_state m ys zs)) (into_refused file d v (plain_state m ys zs) e r k away)

    pub load_granted : v ≡ Ok tt → {filled : ℕ} → Appended before 0 after filled (loaded_text w.ptl w.start w.frames)
        → {told : Told} → told ≡ told_of m (4096 * w.ptl) w.ptl filled true
        → TellsBack before after told (handed_back (lent_to w.ptl memory rights) (plain_state m ys zs)) (loaded (lent_for file memory rights) file)
    load_granted k {filled} text h =
        let d : Desk = lent_to w.ptl memory rights in
        as_read (handed_back d (plain_state m ys zs))
        (rw h (into_granted file d v (plain_state m ys zs) e k filled (rw (← read.ptl_is, ← read.start_is, ← read.frames_is) text)))

-- ---- what is lent lies within the buffers
lent_by : (granted : Bool) (d : Desk) (p : PlainState) (n : ℕ) (text : List ℕ) → Lent d.standing
    → Lent (if granted then onward (handed_back d p) text else turned_away n d.memory d.rights).desk.standing
lent_by true d p n text h = record { memory_fits = h.memory_fits; rights_fits = h.rights_fits }
lent_by false d p n text h = record { memory_fits = omega arith; rights_fits = omega arith }

as_told : {before after : List ℕ} {told : Told} {memory rights : List ℕ} {s : Spoken Desk} → Tells before 0 after told memory rights s
    → Lent s.desk.standing → Lent told.standing
as_told t h = subst Lent (sym (ap (λ (d : Desk). d.standing) t.desk_is)) h

-- ---- the reader's numbers are the file's, and a file within the bound has few pages
module _ (file : List ℕ) (w : Written) (read : image_numbers (Ok w) ≡ (image_call file).numbers) where
  pub read_is : Read file w
  read_is = let a = read_image file w.ptl w.start w.frames read in record { ptl_is = a.is_ptl; start_is = a.is_start; frames_is = a.is_frames }

  pub ptl_few : length file ≤ 263256 → w.ptl ≤ 64
  ptl_few short = let a = read_image file w.ptl w.start w.frames read in omega (arith, a.is_ptl, a.formed.to_pages, a.formed.within)

-- ---- the ways to begin
module _ (file memory rights : List ℕ) where
  by_length : length file ≤ 263256 → loaded (lent_for file memory rights) file ≡ begun file memory rights
  unfolding begun
  by_length short = rw (le-leb (length file) 263256 short)

  by_image : (r : Refusal) → image_numbers (Err r) ≡ (image_call file).numbers
      → turned_away (refusal_number r) memory rights ≡ loaded (lent_for file memory rights) file
  unfolding load_call load_verdict
  by_image r e =
      let d = lent_for file memory rights in
      rw (read_refused file r e (unless (room (ptl_of file) (length (lent d).bytes) (length (lent d).rights)) Room (Ok tt)), some_number r)

  module _ {before after : List ℕ} {told : Told} where
    away : (n : ℕ) → turned_away n memory rights ≡ begun file memory rights → TurnedAway n before after told
        → Tells before 0 after told memory rights (begun file memory rights) × Lent told.standing
    away n e t = (rw (← e) (t memory rights), as_told (t memory rights) (record { memory_fits = omega arith; rights_fits = omega arith }))

    -- "by its length alone"
    pub too_long : 263256 < length file → TurnedAway (refusal_number Room) before after told
        → Tells before 0 after told memory rights (begun file memory rights) × Lent told.standing
    unfolding begun
    too_long h t = away (refusal_number Room) (rw (lt-leb (length file) 263256 h)) t

    module _ (short : length file ≤ 263256) where
      pub not_image : (r : Refusal) → image_numbers (Err r) ≡ (image_call file).numbers → TurnedAway (refusal_number r) before after told
          → Tells before 0 after told memory rights (begun file memory rights) × Lent told.standing
      not_image r e t = away (refusal_number r) (by_image r e ∙ by_length short) t

      pub is_image : (w : Written) → image_numbers (Ok w) ≡ (image_call file).numbers
          → {memory' rights' : List ℕ} → Tells before 0 after told memory' rights' (loaded (lent_for file memory rights) file)
          → Tells before 0 after told memory' rights' (begun file memory rights) × Lent told.standing
      is_image w read t =
          let d = lent_for file memory rights in
          let o = load_call file (lent d).bytes (lent d).rights in
          let few : ptl_of file ≤ 64 = omega (arith, ptl_few file w read short, (read_is file w read).ptl_is) in
          let fits : Lent d.standing = record { memory_fits = omega (arith, few); rights_fits = omega (arith, few) } in
          let text = loaded_text (ptl_of file) (start_of file) (frames_of file) in
          (rw (← (by_length short)) t, as_told t (lent_by (eqb o.verdict.refused 0) d o.state o.verdict.refused text fits))
