-- `load`: refused by the image, refused for a lent length, or loaded.
use Rattle.plainloading.proofs.Loads.{not_image, no_room, pages_fit, rights_fit, loaded}
use Rattle.plainloading.proofs.load.Goals as goal

pub returns-then-not-room : goal.returns-then-not-room
returns-then-not-room c =
    let a = c.args in
    no_room a.file.now a.memory.now a.rights.now _ c.in-Ok.ensures
    _ c.room.ensures c.if-not-room.true _ c.refused-then-not-room.ensures

pub fill_pages-requires : goal.fill_pages-requires
fill_pages-requires c =
    let a = c.args in
    pages_fit a.file.now a.memory.now a.rights.now _ c.in-Ok.ensures
    _ c.room.ensures c.if-not-room.false _ c.pages.ensures.bytes

pub copy-requires : goal.copy-requires
copy-requires c =
    let a = c.args in
    rights_fit a.file.now a.memory.now a.rights.now _ c.in-Ok.ensures
    _ c.room.ensures c.if-not-room.false _ c.rights.ensures.bytes

pub returns-in-Err : goal.returns-in-Err
returns-in-Err c =
    let a = c.args in
    not_image a.file.now a.memory.now a.rights.now _ c.in-Err.ensures
    _ c.refused.ensures

pub returns-else-not-room : goal.returns-else-not-room
returns-else-not-room c =
    let a = c.args in
    loaded a.file.now a.memory.now a.rights.now _ c.in-Ok.ensures
    _ c.room.ensures c.if-not-room.false _ c.plain.ensures _ _ _ _ c.pages.ensures.bytes c.rights.ensures.bytes
    c.fill_pages.ensures c.copy.ensures
