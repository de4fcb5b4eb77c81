pub mod CitationParts
