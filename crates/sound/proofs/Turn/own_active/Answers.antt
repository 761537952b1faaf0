-- `sound::Turn::own_active` meets its contract. The kind says the sort, so each arm has its own claims.
use native.Mathlib.Omega.{arith}
use Rattle.model.specs.Bytes.{view}
use Rattle.sound.proofs.WorkLaws.{what_stands, a_directory, a_seedling, a_sapling, a_tree}
use Rattle.sound.proofs.Turn.own_active.Goals as goal

pub own_directory-requires : goal.own_directory-requires
own_directory-requires c =
    let a = c.args in
    let self = a.self.now in
    let v = view self.volume.img.now in
    let d = a_directory v self.place _ a.entry c.requires c.in-Directory.is in record { sort = d.0; describes = (d.1, what_stands v self.place 0 a.entry c.requires) }

pub own_file-requires : goal.own_file-requires
own_file-requires c =
    let a = c.args in
    let self = a.self.now in
    let v = view self.volume.img.now in
    let d = a_seedling v self.place _ a.entry c.requires c.in-Seedling.is in record { sort = (omega arith, d.0); describes = (d.1, what_stands v self.place 0 a.entry c.requires) }

pub own_file-requires-in-Sapling : goal.own_file-requires-in-Sapling
own_file-requires-in-Sapling c =
    let a = c.args in
    let self = a.self.now in
    let v = view self.volume.img.now in
    let d = a_sapling v self.place _ a.entry c.requires c.in-Sapling.is in record { sort = (omega arith, d.0); describes = (d.1, what_stands v self.place 0 a.entry c.requires) }

pub own_file-requires-in-Tree : goal.own_file-requires-in-Tree
own_file-requires-in-Tree c =
    let a = c.args in
    let self = a.self.now in
    let v = view self.volume.img.now in
    let d = a_tree v self.place _ a.entry c.requires c.in-Tree.is in record { sort = (omega arith, d.0); describes = (d.1, what_stands v self.place 0 a.entry c.requires) }
