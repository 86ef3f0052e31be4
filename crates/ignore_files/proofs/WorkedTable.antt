-- A worked example of the disk of a table: a directory with a file of rules, a file and a link to
-- it.
use Rattle.std.proofs.Common.{◌≡◌, true, false, List, [], ◌∷◌, Some, None, Ok, Err, map, option_map, ok_or, unwrap_or, codes, ap, ◌∙◌}
use Rattle.std.specs.BTreeMap.{get_by_text}
use Rattle.std.specs.Prelude.{Vec}
use Rattle.std.specs.declared.alloc.Global.{Global}
use Rattle.ignore_base.specs.Text.{Path}
use Rattle.ignore_base.specs.declared.fault.Fault.TheVariants as fault
use Rattle.ignore_files.specs.Memory.{and_then}
use Rattle.ignore_files.specs.Table.{row_at, target_of, end_of, unlinked, followed, entries_of, bytes_of, stat_of, visible, listed_of, contents_of, disk_of}
use Rattle.ignore_files.specs.declared.table.Miss.TheVariants as miss
use Rattle.ignore_files.specs.declared.table.Row.{Row}
use Rattle.ignore_files.specs.declared.table.RowEntry.{RowEntry}
use Rattle.ignore_files.specs.declared.table.RowKind.TheVariants.{File, Dir, Link}
use Rattle.ignore_files.specs.declared.table.TableMachine.{TableMachine}
use Rattle.ignore_files.specs.declared.types.FileType.TheVariants as kind
use Rattle.ignore_files.specs.declared.types.Listed.TheVariants as listed

-- what following a path leads to, by its end
followed_at : (table : TableMachine) (path end : Path) (row : Row) → end_of table path ≡ end → row_at table end ≡ Ok row
    → followed table path ≡ unlinked row row.kind
followed_at table path end row e at =
    ap (λ p. and_then (λ r. unlinked r r.kind) (row_at table p)) e ∙ ap (and_then (λ r. unlinked r r.kind)) at

-- a row that is found, and where it leads
row_found : (table : TableMachine) (path : Path) (row : Row) → get_by_text table.rows path ≡ Some row → row_at table path ≡ Ok row
row_found table path row at = ap (λ r. ok_or r miss.NotFound) at

end_found : (table : TableMachine) (path : Path) (row : Row) → get_by_text table.rows path ≡ Some row
    → end_of table path ≡ target_of path row.kind
end_found table path row at = ap (λ r. unwrap_or (option_map (λ row. target_of path row.kind) r) path) at

-- `/p` with `.ignore`, `a.c` and the link `l` to `/p/a.c`
abbrev entries : List RowEntry
entries = record { name = codes ".ignore"; file_type = kind.File } ∷ record { name = codes "a.c"; file_type = kind.File }
    ∷ record { name = codes "l"; file_type = kind.Symlink } ∷ []

abbrev folder : Vec RowEntry Global → Row
folder entries = record { kind = Dir entries; identity = record { device = 1; inode = 2 } }

abbrev rules : Row
rules = record { kind = File (codes "*.o"); identity = record { device = 1; inode = 3 } }

abbrev file : Row
file = record { kind = File (codes "int"); identity = record { device = 1; inode = 4 } }

abbrev link : Row
link = record { kind = Link (codes "/p/a.c"); identity = record { device = 1; inode = 5 } }

module _ (table : TableMachine) (holds : Vec RowEntry Global) (are : holds.items ≡ entries)
    (has_folder : get_by_text table.rows (codes "/p") ≡ Some (folder holds))
    (has_rules : get_by_text table.rows (codes "/p/.ignore") ≡ Some rules)
    (has_file : get_by_text table.rows (codes "/p/a.c") ≡ Some file) (has_link : get_by_text table.rows (codes "/p/l") ≡ Some link)
    (has_no_more : get_by_text table.rows (codes "/p/b") ≡ None) where
  followed_folder : followed table (codes "/p") ≡ Ok (folder holds)
  followed_folder = followed_at table (codes "/p") (codes "/p") (folder holds) (end_found table (codes "/p") (folder holds) has_folder)
      (row_found table (codes "/p") (folder holds) has_folder)

  followed_rules : followed table (codes "/p/.ignore") ≡ Ok rules
  followed_rules = followed_at table (codes "/p/.ignore") (codes "/p/.ignore") rules
      (end_found table (codes "/p/.ignore") rules has_rules) (row_found table (codes "/p/.ignore") rules has_rules)

  followed_link : followed table (codes "/p/l") ≡ Ok file
  followed_link = followed_at table (codes "/p/l") (codes "/p/a.c") file (end_found table (codes "/p/l") link has_link)
      (row_found table (codes "/p/a.c") file has_file)

  -- the directory is listed
  listed_folder : (disk_of table).list (codes "/p") ≡ Ok (listed.Entry (codes ".ignore") kind.File ∷ listed.Entry (codes "a.c") kind.File
      ∷ listed.Entry (codes "l") kind.Symlink ∷ [])
  listed_folder =
      ap (λ at. and_then (λ entries. Ok (map listed_of entries)) (visible (codes "/p") (and_then (λ row. entries_of row.kind) at)))
      followed_folder
      ∙ ap (λ es. Ok (map listed_of es)) are

  -- the rules can be read
  read_rules : (disk_of table).read (codes "/p/.ignore") ≡ Ok (record { bytes = codes "*.o"; fault = None })
  read_rules =
      ap (λ at. and_then (λ bytes. Ok (contents_of bytes)) (visible (codes "/p/.ignore") (and_then (λ row. bytes_of row.kind) at)))
      followed_rules

  -- a link is one, unless it is followed; its canonical path is that of the file
  stat_link : (disk_of table).stat (codes "/p/l") false ≡ Ok (stat_of link)
  stat_link = ap (λ at. and_then (λ row. Ok (stat_of row)) (visible (codes "/p/l") at)) (row_found table (codes "/p/l") link has_link)

  stat_through_link : (disk_of table).stat (codes "/p/l") true ≡ Ok (stat_of file)
  stat_through_link = ap (λ at. and_then (λ row. Ok (stat_of row)) (visible (codes "/p/l") at)) followed_link

  canonical_link : (disk_of table).canonical (codes "/p/l") ≡ Ok (codes "/p/a.c")
  canonical_link =
      ap (λ at. and_then (λ row. Ok (end_of table (codes "/p/l"))) (visible (codes "/p/l") at)) followed_link
      ∙ ap (λ p. Ok p) (end_found table (codes "/p/l") link has_link)

  -- a file is no directory, a directory can't be read, and nothing is elsewhere
  file_not_listed : (disk_of table).list (codes "/p/.ignore") ≡ Err fault.NotADirectory
  file_not_listed =
      ap (λ at. and_then (λ entries. Ok (map listed_of entries)) (visible (codes "/p/.ignore") (and_then (λ row. entries_of row.kind) at)))
      followed_rules

  folder_not_read : (disk_of table).read (codes "/p") ≡ Err fault.IsADirectory
  folder_not_read =
      ap (λ at. and_then (λ bytes. Ok (contents_of bytes)) (visible (codes "/p") (and_then (λ row. bytes_of row.kind) at)))
      followed_folder

  nothing_there : (disk_of table).stat (codes "/p/b") false ≡ Err fault.NotFound
  nothing_there = ap (λ r. and_then (λ row. Ok (stat_of row)) (visible (codes "/p/b") (ok_or r miss.NotFound))) has_no_more
