-- What comes of the frames that a table takes in. Assumes nothing.
use Rattle.std.proofs.Common.{◌≡◌, ℕ, ◌+◌, ◌<◌, ◌≤◌, List, ◌∷◌, length, vec_items, Vec, sym, refl, ap, ◌∙◌, subst, subst₂, arith}
use Rattle.std.specs.declared.alloc.Global.{Global}
use Rattle.std.specs.Vec.{with_items}
use Rattle.std.proofs.lemmas.List.{length-map, with_items_is}
use Rattle.field.specs.Fields.{Ops, Lawful}
use Rattle.algebra.specs.Frames.{code_at, Frame, Frames, InSpan}
use Rattle.algebra.specs.Packets.{Conflicts}
use Rattle.algebra.specs.Rows.{ReducedForm}
use Rattle.elimination.specs.declared.table.Table.{Table}
use Rattle.elimination.specs.Reduction.{lists, rest_row, Reducible, NoCoefficient, FirstCoefficient, Insertable, Spanned, NewRow, with_row}
use Rattle.elimination.specs.Sound.{Sound}
use Rattle.elimination.specs.Tables.{held, PutIn, NothingNew, Conflicting, Shows}
use Rattle.elimination.proofs.Remainder.{length_rest}
use Rattle.elimination.proofs.Tabling.{sound_at, spanned, conflicting, insertable, long_with, form_after, shows_after, sound_after}

module _ {o : Ops} (laws : Lawful o) (t : Table) (f : List ℕ) (field : t.q ≡ o.size) (whole : Frame t.q (t.shape.packets + t.shape.symbols) f) where
  abbrev n : ℕ
  n = t.shape.packets

  abbrev l : ℕ
  l = t.shape.symbols

  abbrev rows : List (List ℕ)
  rows = lists (vec_items t.rows)

  sound : Sound o.size n l rows
  sound = sound_at (sym field) t.sound

  frame : Frame o.size (n + l) f
  frame = subst (λ (q : ℕ). Frame q (n + l) f) field whole

  -- the rows, read as a slice
  module _ {slice : List (Vec ℕ Global)} (same : slice ≡ vec_items t.rows) where
    pub reducible : (room : List ℕ) → length room ≡ length f → Reducible o.size (lists slice) f room
    reducible room long = record {
      rows_frames = subst₂ (λ xs w. Frames o.size w (lists xs)) (sym same) (sym frame.long) sound.frames;
      fewer = subst (λ xs. length (lists xs) ≤ length f) (sym same) (omega (arith, sound.reduced.tall, frame.long));
      codes = frame.codes;
      room = long;
    }

    module _ {rest : List ℕ} (left : Spanned o (lists slice) f rest) where
      spent : Spanned o rows f rest
      spent = subst (λ xs. Spanned o (lists xs) f rest) same left

      pub nothing_new : NoCoefficient (length rest) rest → NothingNew o rows f rows × InSpan o rows (code_at f)
      nothing_new zeros = (
        record {
          none = subst (λ (w : ℕ). NoCoefficient w (rest_row o rows f)) (length_rest o rows f) (subst (λ r. NoCoefficient (length r) r) spent.rest_is zeros);
          rows_are = refl;
        },
        spanned o laws n l rows sound f frame rest spent zeros,
      )

      pub in_conflict : (i : ℕ) × FirstCoefficient (length rest) rest i → Conflicting o rows f rows × Conflicts o n l rows f
      in_conflict (i, first) =
          let there : FirstCoefficient (length (rest_row o rows f)) (rest_row o rows f) i = subst (λ r. FirstCoefficient (length r) r i) spent.rest_is first in (
            record {
              no_coefficient = spent.none;
              symbol = (i, (subst (λ (w : ℕ). i < w) (length_rest o rows f) there.within, there.there));
              rows_are = refl;
            },
            conflicting o laws n l rows sound f frame rest spent i first,
          )

    module _ {row : List ℕ} {a : ℕ} (new : NewRow o (lists slice) f row a) where
      found : NewRow o rows f row a
      found = subst (λ xs. NewRow o (lists xs) f row a) same new

      -- and as a slice to write into, which the row is put into
      module _ {slots : List (Vec ℕ Global)} (writes : slots ≡ vec_items t.rows) where
        pub can_insert : Insertable o.size (lists slots) a row
        can_insert = subst (λ xs. Insertable o.size (lists xs) a row) (sym writes) (insertable o laws n l rows sound f frame row a found)

        module _ (filled : List (Vec ℕ Global)) (put : lists filled ≡ with_row o (lists slots) a row) where
          after : lists (vec_items (with_items t.rows filled)) ≡ with_row o rows a row
          after =
              let stored : lists filled ≡ with_row o rows a row = put ∙ ap (λ xs. with_row o (lists xs) a row) writes in
              ap lists (with_items_is t.rows filled
              (sym (length-map filled vec_items) ∙ ap length stored ∙ long_with o laws n l rows sound f frame row a found ∙ sym sound.reduced.tall
              ∙ length-map (vec_items t.rows) vec_items ∙ sym t.rows.ok.0))
              ∙ stored

          pub sound_with : Sound t.q n l (lists (vec_items (with_items t.rows filled)))
          sound_with = subst₂ (λ q rows. Sound q n l rows) (sym field) (sym after) (sound_after o laws n l rows sound f frame row a found)

          pub put_in : PutIn o rows f a (lists (vec_items (with_items t.rows filled)))
          put_in = record { first = found.first; rows_are = after ∙ ap (with_row o rows a) found.row_is }

          pub shows : Shows o (held t) f a (record { size = t.q; packets = n; symbols = l; rows = lists (vec_items (with_items t.rows filled)) })
          shows = record {
            form = subst (ReducedForm o n l (f ∷ rows)) (sym after) (form_after o laws n l rows sound f frame row a found);
            shows = shows_after o laws n l rows sound f frame row a found;
            size = refl;
            packets = refl;
            symbols = refl;
          }
