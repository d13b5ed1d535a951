-- `load`: refused by the image, refused for its room, or loaded.
use Rattle.std.proofs.Common.{not, ap}
use Rattle.loading.proofs.Loads.{not_image, no_room, few_pages, table_fits, pages_fit, loaded}
use Rattle.loading.proofs.load.Goals as goal

pub returns-then-not-room : goal.returns-then-not-room
returns-then-not-room c =
    let a = c.args in
    no_room a.file.now a.main.now a.swap.now _ c.in-Ok.ensures
    _ c.room.ensures (ap not c.if-not-room.true) _ c.refused-then-not-room.ensures

pub machine-machine-requires : goal.machine-machine-requires
machine-machine-requires c =
    let a = c.args in
    few_pages a.file.now a.main.now a.swap.now _ c.in-Ok.ensures
    _ c.room.ensures (ap not c.if-not-room.false)

pub fill_main-requires : goal.fill_main-requires
fill_main-requires c =
    let a = c.args in
    table_fits a.file.now a.main.now a.swap.now _ c.in-Ok.ensures
    _ c.room.ensures (ap not c.if-not-room.false) _ c.rights.ensures.bytes

pub fill_pages-requires : goal.fill_pages-requires
fill_pages-requires c =
    let a = c.args in
    pages_fit a.file.now a.main.now a.swap.now _ c.in-Ok.ensures
    _ c.room.ensures (ap not c.if-not-room.false) _ c.pages.ensures.bytes

pub returns-in-Err : goal.returns-in-Err
returns-in-Err c =
    let a = c.args in
    not_image a.file.now a.main.now a.swap.now _ c.in-Err.ensures
    _ c.refused.ensures

pub returns-else-not-room : goal.returns-else-not-room
returns-else-not-room c =
    let a = c.args in
    loaded a.file.now a.main.now a.swap.now _ c.in-Ok.ensures
    _ c.room.ensures (ap not c.if-not-room.false) _ c.machine-machine.ensures _ _ _ _ c.rights.ensures.bytes
    c.pages.ensures.bytes c.fill_main.ensures c.fill_pages.ensures
