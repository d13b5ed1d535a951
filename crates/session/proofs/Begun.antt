-- The beginning: what loading leaves of the lent bytes, by its answer (`load_refused`, `load_granted`); what is begun with, at each way out
-- (`too_long`, `not_image`, `many_pages`, `few_pages`), and that what is lent then lies within the buffers (`away`, `begins`).
use mathlib.Core.Path.{◌≡◌, refl, sym, ap, subst, ◌∙◌}
use mathlib.Core.Bool.{Bool, true, false}
use mathlib.Core.List.{List}
use Prim.Native.Nat.{ℕ, ◌*◌, ◌≤◌, ◌<◌}
use native.Mathlib.Omega.{arith}
use borrow.Author.Tests.{le-leb, lt-leb}
use lib.Dec.{eqb, leb}
use lib.ListN.{length, take-append-drop}
use Rattle.std.specs.Prelude.{if◌then◌else◌, Ok, Err}
use Rattle.model.specs.State.{Memory, State, state}
use Rattle.model.specs.Answers.{refusal_number, verdict_numbers, image_numbers, Verdict}
use Rattle.model.specs.Calls.{unless, StateOutcome}
use Rattle.model.specs.Image.{ptl_of, start_of, frames_of, image_verdict, image_call, load_verdict, load_by, load_call, zero_machine}
use Rattle.model.specs.declared.Machine.{Machine}
use Rattle.model.specs.declared.Written.{Written}
use Rattle.model.specs.declared.Refusal.{Refusal}
use Rattle.model.specs.declared.Refusal.TheVariants.{Room}
use Rattle.laws.proofs.Granted.{refused, some_number}
use Rattle.laws.proofs.Formed.{image_onward}
use Rattle.image.proofs.Accepted.{read_image, read_refused}
use Rattle.text.specs.Text.{Appended}
use Rattle.answerlines.specs.Lines.{loaded_text}
use Rattle.talk.specs.Script.{Spoken, onward}
use Rattle.session.specs.Desk.{Desk, desk, standing, lent, handed_back, told_of, Tells}
use Rattle.session.specs.Ready.{Lent}
use Rattle.session.specs.Series.{admits, turned_away, lent_for, begun_by, begun, Read, TurnedAway}
use Rattle.session.specs.declared.Told.{Told}

-- ---- loading, by its answer
kept_by : (v : Verdict) (r : Refusal) (l : List ℕ) (m : Memory) → (load_by v l m).verdict.refused ≡ refusal_number r → (load_by v l m).state.memory ≡ m
kept_by (Ok tt) r l m e = refused r (sym e)
kept_by (Err q) r l m e = refl

-- "from loading, a record of zeros", and the lent bytes as they were
kept : (r : Refusal) (l : List ℕ) (m : Memory) → (load_call l m).verdict.refused ≡ refusal_number r → (load_call l m).state.memory ≡ m
unfolding load_call
kept r l m e = kept_by (load_verdict l m) r l m e

-- code hands back a desk and says what stands at the beginning
abbrev TellsBack : List ℕ → List ℕ → Told → Desk → Spoken Desk → Type 0
TellsBack before after told d s = Tells before 0 after told d.main d.swap s

module _ (file : List ℕ) (d : Desk) (v : Verdict) (p : State) (loaded : record { verdict = verdict_numbers v; state = p } ≡ load_call file (lent d).memory)
    {before after : List ℕ} where
  into_refused : (r : Refusal) → v ≡ Err r → {told : Told} → TurnedAway (refusal_number r) before after told
      → TellsBack before after told (handed_back d p) (begun_by (Ok tt) file d)
  into_refused r e away =
      let g : record { verdict = verdict_numbers (Err r); state = p } ≡ load_call file (lent d).memory = rw e at loaded in
      let back : p.memory ≡ (lent d).memory =
      ap (λ (o : StateOutcome). o.state.memory) g ∙ kept r file (lent d).memory (sym (ap (λ (o : StateOutcome). o.verdict.refused) g)) in
      rw (← g, some_number r, back, take-append-drop d.standing.main d.main, take-append-drop d.standing.swap d.swap) (away d.main d.swap)

  into_granted : v ≡ Ok tt → (filled : ℕ) → Appended before 0 after filled (loaded_text (ptl_of file) (start_of file) (frames_of file))
      → TellsBack before after (told_of p.machine d.standing.main d.standing.swap filled true) (handed_back d p) (begun_by (Ok tt) file d)
  into_granted e filled text =
      let g : record { verdict = verdict_numbers (Ok tt); state = p } ≡ load_call file (lent d).memory = rw e at loaded in
      rw (← g) (record { desk_is = refl; text = text; goes = refl })

-- the pages of swap lent are as many as were read
abbrev lent_to : ℕ → ℕ → List ℕ → List ℕ → Desk
lent_to pages ptl main swap = desk (standing zero_machine (4096 * pages) (4096 * ptl)) main swap

module _ {file : List ℕ} {w : Written} (read : Read file w) (pages : ℕ) (main swap : List ℕ) where
  as_read : {before after : List ℕ} {told : Told} (d : Desk) → TellsBack before after told d (begun_by (Ok tt) file (lent_to pages w.ptl main swap))
      → TellsBack before after told d (begun_by (Ok tt) file (lent_for file pages main swap))
  as_read {before} {after} {told} d t = subst (λ n. TellsBack before after told d (begun_by (Ok tt) file (lent_to pages n main swap))) read.ptl_is t

  module _ (v : Verdict) (m : Machine) {ys zs : List ℕ}
      (loaded : record { verdict = verdict_numbers v; state = state m ys zs } ≡ load_call file (lent (lent_to pages w.ptl main swap)).memory)
      {before after : List ℕ} where
    pub load_refused : (r : Refusal) → v ≡ Err r → {told : Told} → TurnedAway (refusal_number r) before after told
        → TellsBack before after told (handed_back (lent_to pages w.ptl main swap) (state m ys zs)) (begun_by (Ok tt) file (lent_for file pages main swap))
    load_refused r e away =
        let d : Desk = lent_to pages w.ptl main swap in
        as_read (handed_back d (state m ys zs)) (into_refused file d v (state m ys zs) loaded r e away)

    pub load_granted : v ≡ Ok tt → {filled : ℕ} → Appended before 0 after filled (loaded_text w.ptl w.start w.frames)
        → {told : Told} → told ≡ told_of m (4096 * pages) (4096 * w.ptl) filled true
        → TellsBack before after told (handed_back (lent_to pages w.ptl main swap) (state m ys zs)) (begun_by (Ok tt) file (lent_for file pages main swap))
    load_granted e {filled} text h =
        let d : Desk = lent_to pages w.ptl main swap in
        as_read (handed_back d (state m ys zs))
        (rw h (into_granted file d v (state m ys zs) loaded e filled (rw (← read.ptl_is, ← read.start_is, ← read.frames_is) text)))

-- ---- what is lent lies within the buffers
lent_by : (loaded : Bool) (d : Desk) (p : State) (n : ℕ) (text : List ℕ) → Lent d.standing
    → Lent (if loaded then onward (handed_back d p) text else turned_away n d.main d.swap).desk.standing
lent_by true d p n text h = record { main_fits = h.main_fits; swap_fits = h.swap_fits }
lent_by false d p n text h = record { main_fits = omega arith; swap_fits = omega arith }

as_told : {before after : List ℕ} {told : Told} {main swap : List ℕ} {s : Spoken Desk} → Tells before 0 after told main swap s → Lent s.desk.standing → Lent told.standing
as_told t h = subst Lent (sym (ap (λ (d : Desk). d.standing) t.desk_is)) h

-- ---- the ways to begin
module _ (file : List ℕ) (pages : ℕ) (main swap : List ℕ) where
  begun_by_lem : {v : Verdict} → admits file pages ≡ v → begun_by v file (lent_for file pages main swap) ≡ begun file pages main swap
  unfolding begun
  begun_by_lem e = rw e

  module _ {before after : List ℕ} {told : Told} where
    pub away : (r : Refusal) → admits file pages ≡ Err r → TurnedAway (refusal_number r) before after told
        → Tells before 0 after told main swap (begun file pages main swap) × Lent told.standing
    away r e t = (rw (← (begun_by_lem e)) (t main swap), as_told (t main swap) (record { main_fits = omega arith; swap_fits = omega arith }))

    pub begins : admits file pages ≡ Ok tt → pages ≤ 64 → ptl_of file ≤ 80 → {main' swap' : List ℕ}
        → Tells before 0 after told main' swap' (begun_by (Ok tt) file (lent_for file pages main swap))
        → Tells before 0 after told main' swap' (begun file pages main swap) × Lent told.standing
    begins e h k t =
        let d : Desk = lent_for file pages main swap in
        let o : StateOutcome = load_call file (lent d).memory in
        let text : List ℕ = loaded_text (ptl_of file) (start_of file) (frames_of file) in
        let fits : Lent d.standing = record { main_fits = omega arith; swap_fits = omega arith } in
        (rw (← (begun_by_lem e)) t, as_told t (lent_by (eqb o.verdict.refused 0) d o.state o.verdict.refused text fits))

-- ---- "by its length alone"; "after 5 and 6"
module _ (file : List ℕ) (pages : ℕ) where
  pub too_long : 263256 < length file → admits file pages ≡ Err Room
  unfolding admits
  too_long h = simp lt-leb

  module _ (short : length file ≤ 263256) where
    by_image : admits file pages ≡ image_verdict file (unless (leb pages 64) Room (Ok tt))
    unfolding admits
    by_image = simp le-leb

    pub not_image : (r : Refusal) → image_numbers (Err r) ≡ (image_call file).numbers → admits file pages ≡ Err r
    not_image r e = by_image ∙ read_refused file r e (unless (leb pages 64) Room (Ok tt))

    module _ (w : Written) (read : image_numbers (Ok w) ≡ (image_call file).numbers) where
      by_pages : admits file pages ≡ unless (leb pages 64) Room (Ok tt)
      by_pages = let a = read_image file w.ptl w.start w.frames read in by_image ∙ image_onward file (unless (leb pages 64) Room (Ok tt)) a.known a.formed

      pub many_pages : 64 < pages → admits file pages ≡ Err Room
      many_pages h = by_pages ∙ ap (λ (b : Bool). unless b Room (Ok tt)) (lt-leb pages 64 h)

      pub few_pages : pages ≤ 64 → admits file pages ≡ Ok tt
      few_pages h = by_pages ∙ ap (λ (b : Bool). unless b Room (Ok tt)) (le-leb pages 64 h)

      -- the reader's numbers are the file's, and a file within the bound has few pages
      pub read_is : Read file w
      read_is = let a = read_image file w.ptl w.start w.frames read in record { ptl_is = a.is_ptl; start_is = a.is_start; frames_is = a.is_frames }

      pub ptl_few : w.ptl ≤ 64
      ptl_few = let a = read_image file w.ptl w.start w.frames read in omega (arith, a.is_ptl, a.formed.to_pages, a.formed.within)
