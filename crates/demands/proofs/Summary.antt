-- The three demands hold: of every sound machine, of every fresh one, and of every image that loading accepts; and the plain engine gives
-- what the paged machine gives (`summary`).
use Rattle.laws.proofs.Calls.{series_good}
use Rattle.demands.specs.Summary.{start, later, EveryImage, Summary}
use Rattle.demands.proofs.Demand1.{demand_1}
use Rattle.demands.proofs.Demand2.{demand_2}
use Rattle.demands.proofs.Demand3.{fresh, demand_3}
use Rattle.demands.proofs.Loaded.{loaded}
use Rattle.demands.proofs.Least.{every_least}
use Rattle.demands.proofs.Each.{each_load, never_victim, each_instruction, each_run, each_spare}
use Rattle.demands.proofs.Plain1.{plain_1}
use Rattle.demands.proofs.Same.{every_same}

every_image : EveryImage
every_image l m e ss =
    let p = loaded l m e in
    let g = series_good (start l m) p.good ss in
    record {
      loaded = p;
      sound = g;
      calls = demand_2 (later l m ss) g;
      series = demand_3 _ (start l m) (record { good = p.good; frames = p.frames; empty = p.book }) ss;
    }

pub summary : Summary
summary = record {
  demand_1 = demand_1;
  demand_2 = demand_2;
  demand_3 = λ p g e ss. demand_3 _ p (fresh p g e) ss;
  images = every_image;
  least = every_least;
  instructions = each_instruction;
  runs = each_run;
  loads = each_load;
  last = never_victim;
  spares = each_spare;
  plain = plain_1;
  same = every_same;
}
