-- `with_file`: what is written first and what the lines are answered are together the whole text.
use mathlib.Core.Path.{◌≡◌, sym, ◌∙◌}
use mathlib.Core.List.{List}
use Prim.Native.Nat.{ℕ}
use lib.ListN.{take, length-replicate}
use Rattle.std.specs.Prelude.{Bool, true, false, Option}
use Rattle.std.specs.Io.KnownBytes.{Appends}
use Rattle.text.proofs.Appending.{written}
use Rattle.files.proofs.Known.{appended, of_all, ends}
use Rattle.talk.specs.Script.{Spoken, talk, talk_after, lines_of}
use Rattle.plainsession.specs.Desk.{Desk, spoken}
use Rattle.plainsession.specs.Series.{begun_with, plain_talk}
use Rattle.plain.proofs.with_file.Goals as goal

module _ (s : Spoken Desk) (script first : List ℕ) (on : Bool) (a b : Option (List ℕ)) (text_is : first ≡ s.text) (goes : on ≡ s.goes_on)
    (h : Appends a b first) where
  begun_alone : on ≡ false → Appends a b (talk_after spoken s script).text
  begun_alone off = rw (sym goes ∙ off) (rw text_is at h)

  and_on : (d : Desk) (z : Option (List ℕ)) → d ≡ s.desk → on ≡ true → Appends b z (talk spoken 0 d (lines_of script)).text
      → Appends a z (talk_after spoken s script).text
  and_on d z desk_is is_on i =
      rw (sym goes ∙ is_on) (appended a b z s.text (talk spoken 0 s.desk (lines_of script)).text (rw text_is at h) (rw desk_is at i))

pub returns-in_ok-go : goal.returns-in_ok-go
unfolding plain_talk
returns-in_ok-go g c =
    let r = c.in_ok-count.ensures in
    let b = c.begin-begun.ensures.begin_promise in
    let script = take c.in_ok-count.count c.read_full.new.bytes in
    of_all (λ xs. (talk_after spoken (begun_with c.args.file.now) xs).text) 65536 script _ _ _ _ r.read
    (λ i. r.ended (ends _ _ _ 65536 r.in_bounds.1 i (c.read_full.auto.bytes ∙ length-replicate {A = ℕ} 65537 0)))
    (and_on (begun_with c.args.file.now) script _ _ _ _ (written b.text) b.goes c.in_ok-write_all.ensures.bytes _ _ b.desk_is c.if-begun.true
    c.in_ok-go.ensures.written)

pub returns-else-begun : goal.returns-else-begun
unfolding plain_talk
returns-else-begun g c =
    let r = c.in_ok-count.ensures in
    let b = c.begin-begun.ensures.begin_promise in
    let script = take c.in_ok-count.count c.read_full.new.bytes in
    of_all (λ xs. (talk_after spoken (begun_with c.args.file.now) xs).text) 65536 script _ _ _ _ r.read
    (λ i. r.ended (ends _ _ _ 65536 r.in_bounds.1 i (c.read_full.auto.bytes ∙ length-replicate {A = ℕ} 65537 0)))
    (begun_alone (begun_with c.args.file.now) script _ _ _ _ (written b.text) b.goes c.in_ok-write_all.ensures.bytes c.if-begun.false)
