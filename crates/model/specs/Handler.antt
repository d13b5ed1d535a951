-- Section "One attempt": "The handler loads page y." What it does to the two memories, and to the machine.
use Rattle.std.specs.Prelude.{Bool, ℕ, if◌then◌else◌}
use Rattle.model.specs.Pages.{frame_at, swap_of, main_page, with_main_page, swap_page, with_swap_page}
use Rattle.model.specs.Table.{entry, with_entry, put_out, brought_to}
use Rattle.model.specs.Frames.{page_in, marked, frame, free, advanced}
use Rattle.model.specs.State.{Memory, State}
use Rattle.model.specs.declared.Shape.{Shape}
use Rattle.model.specs.declared.FrameBook.{FrameBook}
use Rattle.model.specs.declared.VirtualPage.{VirtualPage}

-- "the page x = B[f] is copied whole to swap, its entry gets ppx 0 and v 0"; but "An unmarked victim is not copied."
unfoldable pub out : Shape → Memory → (copied : Bool) → ℕ → VirtualPage → Memory
out s m copied f x = record {
  main = with_entry s m.main x (put_out (entry s m.main x));
  swap = if copied then with_swap_page m.swap (swap_of s x) (main_page m.main (frame_at s f)) else m.swap;
}

-- "the frame gets y's swap page, .. y's entry gets ppx abase+f and v 1"
unfoldable pub into : Shape → Memory → ℕ → VirtualPage → Memory
into s m f y =
    let copied = with_main_page m.main (frame_at s f) (swap_page m.swap (swap_of s y)) in
    record { main = with_entry s copied y (brought_to (frame_at s f) (entry s copied y)); swap = m.swap }

-- where no frame is free the page in the frame leaves first
unfoldable pub loaded : Shape → FrameBook → Memory → VirtualPage → Memory
loaded s b m y =
    if free s.frames b then into s m (frame s.frames b) y
    else
    let f : ℕ = frame s.frames b in
    into s (out s m (marked b.marks f) f (page_in b f)) f y

-- one step of the handler: "One such step leaves the frame book advanced by exactly one load."
unfoldable pub load : State → VirtualPage → State
load p y = record {
  machine = record {
    shape = p.machine.shape;
    book = advanced p.machine.shape.frames p.machine.book y;
    gpr = p.machine.gpr;
    pcs = p.machine.pcs;
  };
  memory = loaded p.machine.shape p.machine.book p.memory y;
}
