-- The table of texts: of each its name, and its words in English, German and French.
use Rattle.std.specs.Prelude.{ℕ, ◌+◌, ◌/◌, ◌%◌, nat_lt, if◌then◌else◌, List, [], ◌∷◌, codes}
use Rattle.std.specs.List.{flat_map}
use Prim.Native.String.{String}
use Rattle.node_site.specs.RowValue.{RowValue}
use Rattle.node_site.specs.declared.text_table.Text.{Text}
use Rattle.node_site.specs.declared.text_table.Text.TheVariants as text

-- the bytes of a character below 65536 in UTF-8 (RFC 3629, section 3)
abbrev utf8 : ℕ → List ℕ
utf8 c =
    if nat_lt c 128 then c ∷ []
    else if nat_lt c 2048 then (192 + c / 64) ∷ (128 + c % 64) ∷ []
    else (224 + c / 4096) ∷ (128 + (c / 64) % 64) ∷ (128 + c % 64) ∷ []

-- the bytes of a text
abbrev words : String → List ℕ
words text = flat_map utf8 (codes text)

abbrev row : String → String → String → String → RowValue
row name english german french =
    record { name = codes name; english = words english; german = words german; french = words french }

unfoldable pub row_of : Text → RowValue
row_of text.FullText = row "full_text" "Full text" "Volltext" "Texte intégral"
row_of text.AbstractOnly = row "abstract_only" "Abstract only" "Nur Zusammenfassung" "Résumé seulement"
row_of text.Held = row "held" "Holdings found" "Bestand gefunden" "Ressources trouvées"
row_of text.NoFullText = row "no_full_text" "No full text found" "Kein Volltext gefunden" "Aucun texte intégral trouvé"
row_of text.NoFullTextSoFar =
    row "no_full_text_so_far" "No full text found so far" "Bisher kein Volltext gefunden" "Aucun texte intégral trouvé jusqu’ici"
row_of text.NotAnswered = row "not_answered" "Not answered" "Nicht beantwortet" "Demande non traitée"
row_of text.AskAgain = row "ask_again" "Ask again" "Neu anfragen" "Reformuler la demande"
row_of text.NothingToLookUp = row "nothing_to_look_up" "Nothing to look up" "Keine Suche möglich" "Recherche impossible"
row_of text.FindHoldings = row "find_holdings" "Find full text" "Volltext finden" "Trouver le texte intégral"
row_of text.NewSearch = row "new_search" "New search" "Neue Suche" "Nouvelle recherche"
row_of text.Help = row "help" "Help" "Hilfe" "Aide"
row_of text.Contact = row "contact" "Ask the library" "Bibliothek fragen" "Contacter la bibliothèque"
row_of text.Article = row "article" "Article" "Artikel" "Article"
row_of text.Work = row "work" "Journal or book" "Zeitschrift oder Buch" "Revue ou livre"
row_of text.Author = row "author" "Author" "Autor/in" "Auteur"
row_of text.Date = row "date" "Date" "Datum" "Date"
row_of text.Volume = row "volume" "Volume" "Band" "Volume"
row_of text.Issue = row "issue" "Issue" "Heft" "Numéro"
row_of text.Page = row "page" "Page" "Seite" "Page"
row_of text.NotUnderstood = row "not_understood" "not understood" "nicht erkannt" "non reconnu"
row_of text.ReadAt = row "read_at" "Read at" "Lesen bei" "Lire sur"
row_of text.ReadArticle = row "read_article" "Read the article" "Artikel lesen" "Lire l’article"
row_of text.JournalPage = row "journal_page" "The page of the journal" "Zur Seite der Zeitschrift" "La page de la revue"
row_of text.Inside = row "inside" "Covers the whole of what you asked for" "Deckt Ihre Anfrage vollständig ab" "Couvre toute votre demande"
row_of text.Overlap = row "overlap" "Covers a part of the date that you asked for" "Deckt einen Teil des gesuchten Zeitraums ab" "Couvre une partie de la période demandée"
row_of text.Untested = row "untested" "Not compared with a date or a volume" "Nicht mit einem Datum oder Band verglichen" "Non comparé à une date ou à un volume"
row_of text.Outside =
    row "outside" "Held, but not for this date or volume"
    "Vorhanden, aber nicht für dieses Datum oder diesen Band"
    "Disponible, mais pas pour cette date ou ce volume"
row_of text.VolumeOutside =
    row "volume_outside" "The date is covered, the volume is not in this list's range"
    "Das Datum ist abgedeckt, der Band liegt nicht im Bereich dieser Liste"
    "La date est couverte, le volume n’est pas dans ceux de cette liste"
row_of text.Partly = row "partly" "Only a part of it is open to readers today" "Nur ein Teil davon ist heute zugänglich" "Seule une partie est accessible aujourd’hui"
row_of text.Embargoed = row "embargoed" "Not open to readers today" "Heute nicht zugänglich" "Non accessible aujourd’hui"
row_of text.OpenFrom = row "open_from" "Open to readers from" "Zugänglich ab dem" "Accessible à partir du"
row_of text.Depth = row "depth" "Full text" "Volltext" "Texte intégral"
row_of text.Selected = row "selected" "Selected articles" "Ausgewählte Artikel" "Articles choisis"
row_of text.Abstracts = row "abstracts" "Abstracts" "Zusammenfassungen" "Résumés"
row_of text.Free = row "free" "Free to read" "Frei zugänglich" "Accès libre"
row_of text.AvailableFrom = row "available_from" "Available from" "Verfügbar vom" "Disponible du"
row_of text.AvailableTo = row "available_to" "Available to" "Verfügbar bis zum" "Disponible jusqu’au"
row_of text.AvailableFromYear = row "available_from_year" "Available from" "Verfügbar von" "Disponible de"
row_of text.AvailableToYear = row "available_to_year" "Available to" "Verfügbar bis" "Disponible jusqu’en"
row_of text.To = row "to" "to" "bis zum" "au"
row_of text.ToYear = row "to_year" "to" "bis" "à"
row_of text.ToPresent = row "to_present" "to the present" "bis heute" "à aujourd’hui"
row_of text.FromVolume = row "from_volume" "From volume" "Ab Band" "À partir du volume"
row_of text.UpToVolume = row "up_to_volume" "Up to volume" "Bis Band" "Jusqu’au volume"
row_of text.ToVolume = row "to_volume" "to volume" "bis Band" "jusqu’au volume"
row_of text.January = row "january" "January" "Januar" "janvier"
row_of text.February = row "february" "February" "Februar" "février"
row_of text.March = row "march" "March" "März" "mars"
row_of text.April = row "april" "April" "April" "avril"
row_of text.May = row "may" "May" "Mai" "mai"
row_of text.June = row "june" "June" "Juni" "juin"
row_of text.July = row "july" "July" "Juli" "juillet"
row_of text.August = row "august" "August" "August" "août"
row_of text.September = row "september" "September" "September" "septembre"
row_of text.October = row "october" "October" "Oktober" "octobre"
row_of text.November = row "november" "November" "November" "novembre"
row_of text.December = row "december" "December" "Dezember" "décembre"
row_of text.FirstDay = row "first_day" "1" "1." "1er"
row_of text.DayMark = row "day_mark" "" "." ""
row_of text.OnlyRecent = row "only_recent" "Only" "Nur Inhalte aus" "Uniquement le contenu de moins"
row_of text.NotRecent = row "not_recent" "Not" "Keine Inhalte aus" "Sauf le contenu de moins"
row_of text.AlsoNotRecent = row "also_not_recent" "and not" "aber nicht aus" "sauf celui de moins"
row_of text.MostRecent = row "most_recent" "the most recent" "den jüngsten" "de"
row_of text.Day = row "day" "the most recent day" "dem heutigen Tag" "d’un jour"
row_of text.Days = row "days" "days" "Tagen" "jours"
row_of text.Month = row "month" "the most recent month" "dem laufenden Monat" "d’un mois, en mois civils"
row_of text.Months = row "months" "months" "Kalendermonaten" "mois, en mois civils"
row_of text.Year = row "year" "the most recent year" "dem laufenden Jahr" "d’un an, en années civiles"
row_of text.Years = row "years" "years" "Kalenderjahren" "ans, en années civiles"
row_of text.NotShown = row "not_shown" "Not shown:" "Nicht angezeigt:" "Non affichés :"
row_of text.NotShownAtLeast = row "not_shown_at_least" "Not shown: at least" "Nicht angezeigt: mindestens" "Non affichés : au moins"
row_of text.NotShownHint =
    row "not_shown_hint" "Ask with a date or a volume for fewer."
    "Mit einem Datum oder einem Band werden es weniger."
    "Précisez une date ou un volume pour en obtenir moins."
row_of text.MoreIn = row "more_in" "More may be found in" "Mehr gibt es vielleicht in" "D’autres résultats sont possibles dans"
row_of text.HeldOther =
    row "held_other" "This library has the title, but not for what you asked for."
    "Diese Bibliothek hat den Titel, aber nicht für Ihre Anfrage."
    "Cette bibliothèque possède ce titre, mais pas ce que vous demandez."
row_of text.NoHoldings = row "no_holdings" "No holdings match." "Kein Bestand passt zu Ihrer Anfrage." "Aucune ressource ne correspond à votre demande."
row_of text.NoNumber =
    row "no_number" "The query has no ISSN and no ISBN with its check character, so no holdings were looked up."
    "Die Anfrage enthält keine ISSN oder ISBN mit richtiger Prüfziffer, daher wurde kein Bestand gesucht."
    "La demande ne contient ni ISSN ni ISBN avec sa clé de contrôle : aucune recherche n’a été faite."
row_of text.Colon = row "colon" ":" ":" " :"
row_of text.LastCharacter = row "last_character" "the last character should be" "das letzte Zeichen wäre" "le dernier caractère devrait être"
row_of text.OtherCharacter =
    row "other_character" "it may have digits and hyphens, and an X at the end"
    "erlaubt sind Ziffern und Bindestriche, und am Ende ein X"
    "seuls sont admis les chiffres et les traits d’union, et un X à la fin"
row_of text.IssnLength =
    row "issn_length" "an ISSN has 8 digits, and the last may be an X"
    "eine ISSN hat 8 Ziffern, und die letzte kann ein X sein"
    "un ISSN a 8 chiffres, et le dernier peut être un X"
row_of text.IsbnLength =
    row "isbn_length" "an ISBN has 13 digits, or 10, and the last of 10 may be an X"
    "eine ISBN hat 13 Ziffern, oder 10, und die letzte von 10 kann ein X sein"
    "un ISBN a 13 chiffres, ou 10, et le dernier de 10 peut être un X"
row_of text.IsbnFront =
    row "isbn_front" "an ISBN with 13 digits begins with 978 or 979"
    "eine ISBN mit 13 Ziffern beginnt mit 978 oder 979"
    "un ISBN de 13 chiffres commence par 978 ou 979"
row_of text.NoPage =
    row "no_page" "There is no page at this address. Search for the journal or the book here."
    "Unter dieser Adresse gibt es keine Seite. Suchen Sie hier nach der Zeitschrift oder dem Buch."
    "Aucune page n’existe à cette adresse. Recherchez ici la revue ou le livre."
row_of text.NoList =
    row "no_list" "This package has no list at present. Search in all packages here."
    "Für dieses Paket gibt es derzeit keine Liste. Suchen Sie hier in allen Paketen."
    "Ce bouquet n’a pas de liste pour le moment. Recherchez ici dans tous les bouquets."
row_of text.TooManyNumbers =
    row "too_many_numbers" "This link has too many ISSNs and ISBNs. Search for one of them here."
    "Dieser Link enthält zu viele ISSN und ISBN. Suchen Sie hier nach einer davon."
    "Ce lien contient trop d’ISSN et d’ISBN. Recherchez ici l’un d’eux."
row_of text.OtherWays = row "other_ways" "Other ways to it" "Weitere Möglichkeiten" "Autres possibilités"
row_of text.Request = row "request" "Request it from another library" "Über Fernleihe bestellen" "Demander par le prêt entre bibliothèques"
row_of text.FindTitles = row "find_titles" "Find titles" "Titel finden" "Rechercher des titres"
row_of text.FieldTitle = row "field_title" "Title, or a part of it" "Titel oder ein Teil davon" "Titre ou une partie du titre"
row_of text.TitleOrder =
    row "title_order" "By package, and then as in each list, which publishers are asked to sort from A to Z."
    "Nach Paket und in der Reihenfolge der jeweiligen Liste. Verlage sollen ihre Listen von A bis Z ordnen."
    "Par bouquet, puis dans l’ordre de chaque liste, que les éditeurs sont priés de trier de A à Z."
row_of text.NoTitles =
    row "no_titles" "No title in this part of the lists contains the text."
    "In diesem Teil der Listen enthält kein Titel den Text."
    "Aucun titre de cette partie des listes ne contient ce texte."
row_of text.FurtherTitles = row "further_titles" "Look for further titles" "Nach weiteren Titeln suchen" "Chercher d’autres titres"
row_of text.TitlesNotRead =
    row "titles_not_read" "This search cannot be read. Enter a title, or a part of it, here."
    "Diese Suche konnte nicht gelesen werden. Geben Sie hier einen Titel oder einen Teil davon ein."
    "Cette recherche n’a pas pu être lue. Saisissez ici un titre ou une partie du titre."
row_of text.Packages = row "packages" "Packages" "Pakete" "Bouquets"
row_of text.FieldIssn = row "field_issn" "ISSN of a journal" "ISSN einer Zeitschrift" "ISSN d’une revue"
row_of text.FieldIsbn = row "field_isbn" "or ISBN of a book" "oder ISBN eines Buches" "ou ISBN d’un livre"
row_of text.FieldDate = row "field_date" "Date, as 1996 or 1996-03-01" "Datum, etwa 1996 oder 1996-03-01" "Date, par exemple 1996 ou 1996-03-01"
row_of text.FieldVolume = row "field_volume" "Volume" "Band" "Volume"
row_of text.Search = row "search" "Find" "Suchen" "Rechercher"
